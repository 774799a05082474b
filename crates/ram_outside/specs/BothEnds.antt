-- A source and a sink as one conversation. For the struct that makes it.
use Rattle.ram_outside.specs.declared.conversation.BothEnds.{BothEnds}

-- the conversation with this sink in place of its own (this project's own)
abbrev pub with_sink : {S K : Type 0} → BothEnds S K → K → BothEnds S K
with_sink talk sink = record talk { report = sink }
