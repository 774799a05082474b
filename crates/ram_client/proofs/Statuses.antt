-- The statuses of a session, for who tells of all runs.
use Rattle.ram_machine.specs.declared.status.Status.{Status}
use Rattle.ram_machine.specs.declared.status.Status.TheVariants as statuses
use Rattle.std.proofs.Common.{inl}
use Rattle.ram_script.specs.RunCounts.{Counts}
use Rattle.ram_script.specs.Endings.{IsOfRun, StatusCounts}
use Rattle.ram_session.specs.Session.{SessionCounts}
use Rattle.ram_client.specs.Ends.{IsOfSession}

-- a status whose count rose is one of a session
pub is_of_session : (before after : Counts) (status : Status) → SessionCounts before after status → IsOfSession status
is_of_session before after statuses.Done counts = tt
is_of_session before after statuses.Script counts = tt
is_of_session before after statuses.ImageFault counts = tt
is_of_session before after statuses.SourceFault counts = tt
is_of_session before after statuses.SinkFault counts = tt
is_of_session before after statuses.NotADisc counts = tt
is_of_session before after statuses.Differs counts = absurd counts
is_of_session before after statuses.Usage counts = absurd counts
is_of_session before after statuses.NoMemory counts = absurd counts

-- and one of a run
pub session_of_run : (status : Status) → IsOfSession status → IsOfRun status
session_of_run statuses.Done is = tt
session_of_run statuses.Script is = tt
session_of_run statuses.ImageFault is = tt
session_of_run statuses.SourceFault is = tt
session_of_run statuses.SinkFault is = tt
session_of_run statuses.NotADisc is = tt
session_of_run statuses.Differs is = absurd is
session_of_run statuses.Usage is = absurd is
session_of_run statuses.NoMemory is = absurd is

-- whose counts are those of a run
pub session_counts : (before after : Counts) (status : Status) → SessionCounts before after status → StatusCounts before after status
session_counts before after statuses.Done counts = counts
session_counts before after statuses.Script counts = counts
session_counts before after statuses.ImageFault counts = counts
session_counts before after statuses.SourceFault counts = counts
session_counts before after statuses.SinkFault counts = inl counts
session_counts before after statuses.NotADisc counts = counts
session_counts before after statuses.Differs counts = absurd counts
session_counts before after statuses.Usage counts = absurd counts
session_counts before after statuses.NoMemory counts = absurd counts
