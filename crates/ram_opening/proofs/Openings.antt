-- The lines of the opening, one after another.
use Rattle.std.specs.Prelude.{◌≡◌, ℕ, zero, suc, ◌+◌, ◌<◌, ◌≤◌, true, false, Option, Some, None, Ok, Err, List, [], ◌∷◌, length, map, replicate}
use Rattle.std.specs.Borrow.{Bor}
use Rattle.std.proofs.Common.{arith, refl, sym, ap, ◌∙◌, subst, append_assoc, append-nil, drop, drop_of_length-le, get_or}
use Rattle.std.proofs.lemmas.List.{drop_more}
use Rattle.model_nbd.specs.Handshake.{Export as Told}
use Rattle.ram_text.specs.Faults.{IsFaultWord, AreFaultWords}
use Rattle.ram_text.specs.declared.script.Line.{Line}
use Rattle.ram_text.specs.declared.script.Line.TheVariants as lines
use Rattle.ram_machine.specs.declared.reply.Reply.{Reply}
use Rattle.ram_machine.specs.declared.status.Status.{Status}
use Rattle.ram_machine.specs.declared.status.Status.TheVariants as statuses
use Rattle.ram_machine.specs.Answered.{AnsweredStep}
use Rattle.ram_machine.specs.States.{State, Served, Unopened, Disc, kind_of, IsFirst}
use Rattle.ram_machine.specs.LineSteps.{Step}
use Rattle.ram_script.specs.Progress.{Beginning}
use Rattle.ram_session.specs.Opening.{Given, without_data, cache_on_cdb, cache_on_page, opening_lines, lines_done, RefusesFault, served_after, export_after, IsOpenedInPart}
use Rattle.ram_session.specs.Session.{EndsAtFault}
use Rattle.ram_opening.specs.declared.opening.Export.{Export}
use Rattle.ram_opening.specs.declared.opening.Export.TheVariants as exports
use Rattle.ram_opening.specs.Faults.{ReadsAsFault, ReadAsFaults}
use Rattle.ram_opening.specs.Exports.{export_size, told_export}
use Rattle.ram_opening.specs.Opens.{is_disc, OpeningLineDone, OpeningLineRule, IsNothingYet, IsServedSo, OpenedTo, OpensOn, LiesWhereServed, IsOpenedAs, SessionOpenRule}

-- what is served after the power, and after each line behind it
pub served_first : (export : Told) (reply : Reply) (step : AnsweredStep) (steps : List AnsweredStep) → export ≡ served_after reply → step.reply ≡ reply
    → steps ≡ [] → IsServedSo export (step ∷ steps)
served_first export reply step [] is same none = ap served_after same ∙ sym is
served_first export reply step (other ∷ before) is same none = absurd cc

served_still : (export : Told) (step : AnsweredStep) (steps : List AnsweredStep) → IsServedSo export steps → IsServedSo export (step ∷ steps)
served_still export step [] told = absurd told
served_still export step (other ∷ before) told = told

served_now : (export : Told) (steps : List AnsweredStep) → IsServedSo export steps → export_after steps ≡ export
served_now export [] told = absurd told
served_now export (step ∷ before) told = told

module _ (first : Beginning) (faults : List Line) (before after : State → Type 0) where
  -- these lines were done, and this one is the next
  abbrev in_part : (sofar : List AnsweredStep → Type 0) (given : Given) (rest : List Given) → OpenedTo first faults sofar before (given ∷ rest) → IsOpenedInPart first faults
  in_part sofar given rest far = record {
    start = Disc far.start;
    starts = far.starts;
    kind_is = far.kind_is;
    steps = far.steps;
    none_refused = far.none_refused;
    now = Disc far.now;
    run = far.run;
    next = given;
    others = rest;
    lines_are = far.lines_are;
  }

  module _ (sofar : List AnsweredStep → Type 0) (given : Given) (rest : List Given) (far : OpenedTo first faults sofar before (given ∷ rest)) where
    -- one line more was done
    pub line_more : (sofar' : List AnsweredStep → Type 0) (reply : Reply)
        → ((t u : Served) (data_in : List ℕ) → Step (Disc t) given.line given.payload (Ok reply) data_in (Disc u) → RefusesFault reply → ⊥)
        → ((step : AnsweredStep) (steps : List AnsweredStep) → step.reply ≡ reply → sofar steps → sofar' (step ∷ steps))
        → ((t : Served) → before (Disc t) → OpeningLineDone after t given reply) → OpenedTo first faults sofar' after rest
    line_more sofar' reply kept goes does =
        let done = does far.now far.stands_now in
        let step : AnsweredStep = record { line = given.line; payload = given.payload; reply = reply; data_in = done.data_in } in
        record {
          start = far.start;
          starts = far.starts;
          kind_is = far.kind_is;
          steps = step ∷ far.steps;
          none_refused = (kept far.now done.now done.data_in done.step, far.none_refused);
          now = done.now;
          run = (Disc far.now, far.run, done.step);
          stands_now = done.stands;
          lines_are = far.lines_are ∙ sym (append_assoc (lines_done far.steps) (given ∷ []) rest);
          told = goes step far.steps refl far.told;
        }

    -- it was refused
    pub line_refused : (reply : Reply) → RefusesFault reply → ((t : Served) → before (Disc t) → OpeningLineDone after t given reply) → EndsAtFault first faults after
    line_refused reply refused does =
        let done = does far.now far.stands_now in
        record {
          part = in_part sofar given rest far;
          reply = reply;
          data_in = done.data_in;
          state = Disc done.now;
          step = done.step;
          refused = refused;
          leaves_state = done.stands;
        }

    -- it was not done
    pub line_ended : {X : Type 0} (serves : X → Told) (others : List Given) (status : Status)
        → ((t : Served) → before (Disc t) → OpeningLineRule after t given (Err status)) → OpensOn first faults serves after others (Err status)
    line_ended serves others statuses.ImageFault does =
        let failed = does far.now far.stands_now in
        record {
          part = in_part sofar given rest far;
          data_in = failed.data_in;
          state = failed.state;
          step = failed.step;
          leaves_state = failed.stands;
        }
    line_ended serves others statuses.Script does = absurd (does far.now far.stands_now)
    line_ended serves others statuses.Done does = does far.now far.stands_now
    line_ended serves others statuses.Differs does = does far.now far.stands_now
    line_ended serves others statuses.Usage does = does far.now far.stands_now
    line_ended serves others statuses.SourceFault does = does far.now far.stands_now
    line_ended serves others statuses.SinkFault does = does far.now far.stands_now
    line_ended serves others statuses.NoMemory does = does far.now far.stands_now
    line_ended serves others statuses.NotADisc does = does far.now far.stands_now

  module _ (export : Told) (given : Given) (rest : List Given) (far : OpenedTo first faults (IsServedSo export) before (given ∷ rest)) where
    -- the same behind the power
    pub next_more : (reply : Reply)
        → ((t u : Served) (data_in : List ℕ) → Step (Disc t) given.line given.payload (Ok reply) data_in (Disc u) → RefusesFault reply → ⊥)
        → ((t : Served) → before (Disc t) → OpeningLineDone after t given reply) → OpenedTo first faults (IsServedSo export) after rest
    next_more reply kept does =
        line_more (IsServedSo export) given rest far (IsServedSo export) reply kept (λ step steps same told. served_still export step steps told) does

module _ (first : Beginning) (faults : List Line) (stands : State → Type 0) where
  -- the session ends as a call before says
  pub ended_so : {X Y : Type 0} (serves : X → Told) (serves' : Y → Told) (rest others : List Given) (status : Status)
      → OpensOn first faults serves stands rest (Err status) → OpensOn first faults serves' stands others (Err status)
  ended_so serves serves' rest others statuses.ImageFault ends = ends
  ended_so serves serves' rest others statuses.Script ends = ends
  ended_so serves serves' rest others statuses.Done ends = ends
  ended_so serves serves' rest others statuses.Differs ends = ends
  ended_so serves serves' rest others statuses.Usage ends = ends
  ended_so serves serves' rest others statuses.SourceFault ends = ends
  ended_so serves serves' rest others statuses.SinkFault ends = ends
  ended_so serves serves' rest others statuses.NoMemory ends = ends
  ended_so serves serves' rest others statuses.NotADisc ends = ends

  pub open_ended : {X : Type 0} (serves : X → Told) (rest : List Given) (status : Status) → OpensOn first faults serves stands rest (Err status) → SessionOpenRule first faults stands (Err status)
  open_ended serves rest statuses.ImageFault ends = ends
  open_ended serves rest statuses.Script ends = ends
  open_ended serves rest statuses.Done ends = ends
  open_ended serves rest statuses.Differs ends = ends
  open_ended serves rest statuses.Usage ends = ends
  open_ended serves rest statuses.SourceFault ends = ends
  open_ended serves rest statuses.SinkFault ends = ends
  open_ended serves rest statuses.NoMemory ends = ends
  open_ended serves rest statuses.NotADisc ends = ends

  -- there is no disc
  pub no_disc : (start : State) → IsFirst first.image start → kind_of start ≡ first.kind → stands start → false ≡ is_disc start
      → SessionOpenRule first faults stands (Ok exports.NoDisc)
  no_disc (Unopened image) starts kind_is stood is = record {
    opened = record {
      start = Unopened image;
      starts = starts;
      kind_is = kind_is;
      steps = [];
      lines_are = refl;
      ready = Unopened image;
      run = refl;
    };
    serves = refl;
    lies = tt;
    stands_ready = stood;
  }
  no_disc (Disc s) starts kind_is stood is = absurd cc

  -- there is one, and no line is done yet
  pub begun : (start : State) → IsFirst first.image start → kind_of start ≡ first.kind → stands start → true ≡ is_disc start
      → OpenedTo first faults IsNothingYet stands (opening_lines faults)
  begun (Unopened image) starts kind_is stood is = absurd cc
  begun (Disc s) starts kind_is stood is = record {
    start = s;
    starts = starts;
    kind_is = kind_is;
    steps = [];
    none_refused = tt;
    now = s;
    run = refl;
    stands_now = stood;
    lines_are = refl;
    told = refl;
  }

  -- all lines were done
  lies_so : (size : Option ℕ) (s : Served) → LiesWhereServed size (Disc s)
  lies_so None s = tt
  lies_so (Some size) s = (s, refl)

  pub opened_whole : (export : Export) → OpenedTo first faults (IsServedSo (told_export export)) stands [] → IsOpenedAs first faults stands export
  opened_whole export far = record {
    opened = record {
      start = Disc far.start;
      starts = far.starts;
      kind_is = far.kind_is;
      steps = far.steps;
      lines_are = (sym (far.lines_are ∙ append-nil (lines_done far.steps)), far.none_refused);
      ready = Disc far.now;
      run = far.run;
    };
    serves = served_now (told_export export) far.steps far.told;
    lies = lies_so (export_size export) far.now;
    stands_ready = far.stands_now;
  }

-- a command of this block and these data is the next line, where it is one of the same
pub command_as : (first : Beginning) (faults : List Line) (sofar : List AnsweredStep → Type 0) (stands : State → Type 0) (cdb same payload sent : List ℕ) (rest : List Given)
    → cdb ≡ same → payload ≡ sent → OpenedTo first faults sofar stands (record { line = lines.Command same; payload = sent } ∷ rest)
    → OpenedTo first faults sofar stands (record { line = lines.Command cdb; payload = payload } ∷ rest)
command_as first faults sofar stands cdb same payload sent rest is also far =
    subst (λ (xs : List ℕ). OpenedTo first faults sofar stands (record { line = lines.Command cdb; payload = xs } ∷ rest)) (sym also)
    (subst (λ (xs : List ℕ). OpenedTo first faults sofar stands (record { line = lines.Command xs; payload = sent } ∷ rest)) (sym is) far)

-- the lines behind the power
abbrev pub after_power : List Line → List Given
after_power faults = without_data (lines.Command (replicate 6 0)) ∷ record { line = lines.Command cache_on_cdb; payload = cache_on_page } ∷ map without_data faults

-- the fault of a word, which is the first of those that are left
abbrev text_of : Bor (List ℕ) → List ℕ
text_of word = word.now

as_many : (words : List (Bor (List ℕ))) (faults : List Line) → AreFaultWords (map text_of words) faults → length faults ≡ length words
as_many [] faults are = ap length are
as_many (word ∷ words) [] are = absurd are
as_many (word ∷ words) (fault ∷ faults) are = ap suc (as_many words faults are.1)

fault_there : (words : List (Bor (List ℕ))) (faults : List Line) (n : ℕ) (d : Bor (List ℕ)) (e : Line) → AreFaultWords (map text_of words) faults
    → n < length words → IsFaultWord (get_or words n d).now (get_or faults n e)
fault_there [] faults n d e are more = absurd (omega (arith, more))
fault_there (word ∷ words) [] n d e are more = absurd are
fault_there (word ∷ words) (fault ∷ faults) zero d e are more = are.0
fault_there (word ∷ words) (fault ∷ faults) (suc n) d e are more = fault_there words faults n d e are.1 (omega (arith, more))

pub reads_there : (words : List (Bor (List ℕ))) (n : ℕ) (d : Bor (List ℕ)) → n < length words → ReadAsFaults (map text_of words)
    → ReadsAsFault (get_or words n d).now
reads_there words n d more (faults, are) = (get_or faults n lines.Power, fault_there words faults n d lines.Power are more)

abbrev pub fault_at : List Line → ℕ → Line
fault_at faults n = get_or faults n lines.Power

module _ (words : List (Bor (List ℕ))) (faults : List Line) (are : AreFaultWords (map text_of words) faults) (n : ℕ) where
  module _ (more : n < length words) where
    pub is_fault_at : (d : Bor (List ℕ)) → IsFaultWord (get_or words n d).now (fault_at faults n)
    is_fault_at d = fault_there words faults n d lines.Power are more

    pub faults_more : map without_data (drop n faults) ≡ without_data (fault_at faults n) ∷ map without_data (drop (n + 1) faults)
    faults_more = ap (λ (left : List Line). map without_data left) (drop_more faults n lines.Power (subst (λ (k : ℕ). n < k) (sym (as_many words faults are)) more))

  pub faults_end : length words ≤ n → map without_data (drop n faults) ≡ []
  faults_end all = ap (λ (left : List Line). map without_data left) (drop_of_length-le faults (subst (λ (k : ℕ). k ≤ n) (sym (as_many words faults are)) all))
