-- The words of each event.
use Rattle.ram_report.proofs.printing.events.print_event_words.Goals as goal

pub returns-in-NotPressed : goal.returns-in-NotPressed
returns-in-NotPressed g c = rw c.in-NotPressed.is c.put-in-NotPressed.ensures

pub returns-in-NotFormatted : goal.returns-in-NotFormatted
returns-in-NotFormatted g c = rw c.in-NotFormatted.is c.put-in-NotFormatted.ensures

pub returns-in-NoSuchBlock : goal.returns-in-NoSuchBlock
returns-in-NoSuchBlock g c = rw c.in-NoSuchBlock.is c.put-in-NoSuchBlock.ensures

pub returns-in-NoUpdate : goal.returns-in-NoUpdate
returns-in-NoUpdate g c = rw c.in-NoUpdate.is c.put-in-NoUpdate.ensures

pub returns-in-NoSpare : goal.returns-in-NoSpare
returns-in-NoSpare g c = rw c.in-NoSpare.is c.print_counted-in-NoSpare.ensures

pub returns-in-Unreadable : goal.returns-in-Unreadable
returns-in-Unreadable g c = rw c.in-Unreadable.is c.print_counted-in-Unreadable.ensures
