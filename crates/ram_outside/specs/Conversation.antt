-- A conversation: what comes, what goes, and what was written whenever more was asked for. For the trait `Conversation`, and for who reads
-- lines and answers them.
use Rattle.std.specs.Prelude.{◌≡◌, ℕ, Option, List}
use Rattle.ram_outside.specs.Added.{AddsNow, AddsOnly}

-- How it stood when more was asked for: what was left to come, and what was written by then, each where it is known. (This project's own,
-- as all here.)
pub record Asked : Type 0 where
  pub left : Option (List ℕ)
  pub written : Option (List ℕ)

-- this much was left and written
abbrev pub asked_with : Option (List ℕ) → Option (List ℕ) → Asked
asked_with left written = record { left = left; written = written }

-- Where it is known when more was asked for, the newest first: once more now, beside the times that were known before.
abbrev pub AsksNow : Asked → Option (List Asked) → Option (List Asked) → Type 0
AsksNow now before after = AddsNow now before after

-- Whenever more was asked for between the two, it stood like this.
abbrev pub AsksOnly : (Asked → Type 0) → Option (List Asked) → Option (List Asked) → Type 0
AsksOnly stood before after = AddsOnly stood before after

-- The sink of a conversation is a part of it: with another one it is that one, and nothing else of the conversation differs.
pub record HoldsReport {T K : Type 0} (left : T → Option (List ℕ)) (faults : T → ℕ) (asked : T → Option (List Asked)) (report : T → K)
    (with_report : T → K → T) : Type 0 where
  pub report_is : (talk : T) (sink : K) → report (with_report talk sink) ≡ sink
  pub same_left : (talk : T) (sink : K) → left (with_report talk sink) ≡ left talk
  pub same_faults : (talk : T) (sink : K) → faults (with_report talk sink) ≡ faults talk
  pub same_asked : (talk : T) (sink : K) → asked (with_report talk sink) ≡ asked talk
