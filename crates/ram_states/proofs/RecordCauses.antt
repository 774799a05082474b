-- From the rules of the reading and the writing of the record of the lead to the causes of their answers.
use Rattle.std.specs.Prelude.{MatchResult}
use Rattle.std.proofs.Common.{Result, Ok, Err, ◌≡◌, ◌≢◌, ℕ, zero, suc, ◌+◌, ◌*◌, ◌≤◌, ◌⊎◌, inl, inr, true, IsTrue, Option, Some, None, List, refl, sym, ap, ◌∙◌, subst, arith}
use Rattle.std.proofs.lemmas.Bool.{cases_eq}
use Rattle.model_geometry.specs.Geometry.{Shape, record_block}
use Rattle.model_lists.specs.Records.{LeadRecord, IsRecordText}
use Rattle.model_medium.specs.Cells.{Cell, Dead, IsSameOrDead, cell_at}
use Rattle.model_medium.specs.World.{World, Span}
use Rattle.model_medium.specs.Machine.{Machine}
use Rattle.model_medium.specs.Exact.{Event}
use Rattle.model_medium.specs.declared.WornBlock.{WornBlock}
use Rattle.model_medium.specs.declared.ArmedCut.{ArmedCut}
use Rattle.model_stops.specs.Stops.{Continues, Stops}
use Rattle.model_stops.specs.declared.Stop.{Stop}
use Rattle.model_stops.specs.declared.Stop.TheVariants as stops
use Rattle.model_copies.specs.Copies.{IsArea, Holds, MayHold, IsSeen, IsChosen, Rewrites}
use Rattle.model_copies.specs.Stops.{StopsAt, SparesExact}
use Rattle.model_copies.proofs.CopyFacts.{area_cases}
use Rattle.model_copies.proofs.Rewriting.{rewrites_like}
use Rattle.model_places.specs.Places.{Lists}
use Rattle.model_survival.proofs.Losing as losing
use Rattle.model_drive.specs.Shown.{Shown}
use Rattle.model_drive.specs.Parts.{AreSameOrDead}
use Rattle.model_drive.specs.Records.{generation_of, IsRecordOf, OnlyRecord, KeepsDisc, LeavesRecord, record_update_uses, StopsWritingRecord, LeadFromCause, MendsRecord, LeavesMending, StopsReadingRecord, GenerationCause}
use Rattle.ram_medium.specs.Laws.{MediumLaws, ControlLaws, machine_shown}
use Rattle.ram_medium.proofs.Parts.{continues_then, stops_within}
use Rattle.ram_zones.specs.declared.list_kind.ListKind.TheVariants as kinds
use Rattle.ram_copies.specs.Values.{RecordValue}
use Rattle.ram_copies.specs.Choices.{MayHaveTwo, best_in}
use Rattle.ram_copies.specs.Chooses.{FindsBest, StopsChoosing}
use Rattle.ram_copies.specs.Calls.{ChangesCopiesAlone, CallEnds, LeavesCopies, Repairs, HasPutList, StopsPuttingList, StopsUpdating, StopsRepairing, repair_uses_of}
use Rattle.ram_copies.specs.declared.writes.Purpose.TheVariants as purposes
use Rattle.ram_copies.proofs.EachList.{record_exact, record_lost, record_all_lost, record_may, record_stays_dead, record_stops, record_spares, record_rewritten}
use Rattle.ram_copies.proofs.EachChoice.{record_chosen, record_none, record_uses}
use Rattle.ram_copies.proofs.Halting.{stops_after}
use Rattle.ram_transfer.specs.Stopped.{record_stopped_by}
use Rattle.ram_transfer.specs.Shown.{shown_without}
use Rattle.ram_transfer.proofs.Machines.{machine_continues, machine_stops}
use Rattle.ram_states.specs.Records.{AcceptsAny, IsMended, ChoosesRecord, HasMended, StopsInRepair, StopsMending, out_for}

-- a block is one of the record's, or none
record_decided : (shape : Shape) (block : ℕ) → ((area : ℕ) × IsArea area × (block ≡ record_block shape area)) ⊎ ((area : ℕ) → IsArea area → block ≢ record_block shape area)
record_decided shape block = elim (cases_eq block (record_block shape 1)) [
  | inl one ↦ inl (1, (omega arith, omega arith), one)
  | inr no_one ↦ elim (cases_eq block (record_block shape 2)) [
    | inl two ↦ inl (2, (omega arith, omega arith), two)
    | inr no_two ↦ elim (cases_eq block (record_block shape 3)) [
      | inl three ↦ inl (3, (omega arith, omega arith), three)
      | inr no_three ↦ elim (cases_eq block (record_block shape 4)) [
        | inl four ↦ inl (4, (omega arith, omega arith), four)
        | inr no_four ↦ inr (λ area is same. elim (area_cases area is) [
          | inl e ↦ no_one (same ∙ ap (record_block shape) e)
          | inr (inl e) ↦ no_two (same ∙ ap (record_block shape) e)
          | inr (inr (inl e)) ↦ no_three (same ∙ ap (record_block shape) e)
          | inr (inr (inr e)) ↦ no_four (same ∙ ap (record_block shape) e)
        ])
      ]
    ]
  ]
]

module _ {M : Type 0} (world : M → World) (block_count : M → ℕ) (reaches : M → M → Span → Type 0) (takes : M → M → Event → Type 0) (arms : M → List WornBlock) (armed_cut : M → Option ArmedCut)
    (laws : MediumLaws world block_count reaches) (control : ControlLaws world reaches takes arms armed_cut) (shape : Shape) (lists : Option Lists) (mark : ℕ) (buffer : List (ℕ × List ℕ)) where
  abbrev machine : M → Machine
  machine m = machine_shown world arms armed_cut m

  -- what the drive shows with its power on, and off
  abbrev pub shown_on : M → Shown
  shown_on m = record { shape = shape; medium = machine m; lists = lists; mark = mark; buffer = buffer }

  abbrev pub shown_off : M → Shown
  shown_off m = shown_without shape (machine m)

  only_of : (old new : M) {two : Type 0} → ¬ two → ChangesCopiesAlone world reaches kinds.Record shape old new two
      → (block : ℕ) → ((area : ℕ) → IsArea area → block ≢ record_block shape area) → cell_at (world new).cells block ≡ cell_at (world old).cells block
  only_of old new none alone block apart = alone.others block apart (λ two. absurd (none two))

  -- ---- the writing

  module _ (old new : M) (v : LeadRecord) where
    pub written_only : (readable : ℕ) → HasPutList world reaches kinds.Record shape old new (RecordValue v) purposes.Update readable → OnlyRecord (shown_on old) (shown_on new)
    written_only readable did = only_of old new (λ two. two) did.0.alone

    keeps_disc : CallEnds world reaches kinds.Record shape old new ⊥ 8 → KeepsDisc (shown_on old) (shown_on new) record_update_uses
    keeps_disc ended = record {
      was_on = ended.was_on;
      ends = machine_continues world reaches takes arms armed_cut control old new 8 ended.continues;
      keeps = record { same_lists = refl; same_mark = refl };
      same_buffer = refl;
      only = only_of old new (λ two. two) ended.alone;
    }

    pub written : (readable : ℕ) → HasPutList world reaches kinds.Record shape old new (RecordValue v) purposes.Update readable → LeadFromCause (shown_on old) (shown_on new) v (out_for readable)
    written zero did = record { keeps = keeps_disc did.0; lost = λ known. record_lost shape v (world new).cells did.1.lost }
    written (suc n) did = record {
      keeps = keeps_disc did.0;
      exact = λ known. record_exact shape v (world new).cells did.1.exact;
      left = λ known none. did.1.not_lost known (record_all_lost shape v (world new).cells none);
    }

    leaves : LeavesCopies kinds.Record shape (world old).cells (world new).cells (RecordValue v) → LeavesRecord (shown_on old) (shown_off new) v
    leaves left = record {
      at = left.stops.at;
      stops = record_stops shape v (world old).cells (world new).cells left;
      may = record_may shape v (world old).cells (world new).cells left;
      stays_dead = record_stays_dead shape v (world old).cells (world new).cells left;
      one_lost = losing.record_lost shape (world old).cells (world new).cells v left.stops.at (record_stops shape v (world old).cells (world new).cells left);
    }

    stops_writing : (stop : Stop) → StopsUpdating world reaches kinds.Record shape old new (RecordValue v) stop → StopsWritingRecord (shown_on old) (shown_off new) v stop
    stops_writing stop was = record {
      was_on = was.within.was_on;
      stopped = record {
        stops = machine_stops world reaches takes arms armed_cut control old new 8 8 refl stop was.within.stops;
        no_lists = refl;
        no_mark = refl;
        no_buffer = refl;
      };
      only = only_of old new (λ two. two) was.within.alone;
      left = λ known. leaves was.leaves;
    }

    pub write_stopped : (stop : Stop) → StopsUpdating world reaches kinds.Record shape old new (RecordValue v) stop → LeadFromCause (shown_on old) (shown_off new) v (record_stopped_by stop)
    write_stopped stops.Cut was = stops_writing stops.Cut was
    write_stopped stops.Off was = absurd (was.within.stops.was_off was.within.was_on)
    write_stopped stops.Fault was = stops_writing stops.Fault was

  -- ---- the reading

  module _ (old mid : M) (v : LeadRecord) (chosen : ChoosesRecord world reaches shape old mid v) where
    look_ends : CallEnds world reaches kinds.Record shape old mid (MayHaveTwo kinds.Record) 4
    look_ends = record_uses world reaches shape old mid chosen.looked.out

    mid_known : (world old).known ≡ true → (world mid).known ≡ true
    mid_known known = look_ends.alone.as_known ∙ known

    chosen_in : (area : Option ℕ) (held : LeadRecord) → FindsBest world reaches kinds.Record shape old mid AcceptsAny (best_in area (RecordValue held)) → IsMended area held v
        → (world old).known ≡ true → IsRecordOf shape (world mid).cells v
    chosen_in None held finds is known = inr (record_none shape (world mid).cells AcceptsAny (finds known), is)
    chosen_in (Some area) held finds is known = inl (
      area,
      subst (λ (w : LeadRecord). IsChosen IsRecordText (record_block shape) (world mid).cells generation_of (λ other. Unit {0}) w area) (sym is)
          (record_chosen shape (world mid).cells AcceptsAny held area (finds.chosen known)),
    )

    is_chosen : (world old).known ≡ true → IsRecordOf shape (world mid).cells v
    is_chosen = chosen_in chosen.area chosen.held chosen.looked.best_is chosen.mended

    module _ (new : M) (dead : (block : ℕ) → ((area : ℕ) × IsArea area × (block ≡ record_block shape area)) → cell_at (world mid).cells block ≡ Dead → cell_at (world new).cells block ≡ Dead) where
      sees : IsSeen (record_block shape) (world old).cells (world mid).cells (world new).cells
      sees area is = elim (chosen.looked.out.saw.firsts area is) [
        | inl same ↦ inl same
        | inr died ↦ inr (died.0, dead (record_block shape area) (area, is, refl) died.0)
      ]

      same_or_dead : (area : ℕ) → IsArea area → IsSameOrDead (cell_at (world mid).cells (record_block shape area)) (cell_at (world new).cells (record_block shape area))
          → IsSameOrDead (cell_at (world old).cells (record_block shape area)) (cell_at (world new).cells (record_block shape area))
      same_or_dead area is later = elim (sees area is) [
        | inl same ↦ elim later [ inl stays ↦ inl (stays ∙ same) | inr died ↦ inr died ]
        | inr both ↦ inr both.1
      ]

      spares_on : SparesExact IsRecordText (record_block shape) (world mid).cells (world new).cells v → SparesExact IsRecordText (record_block shape) (world old).cells (world new).cells v
      spares_on spares area is held = elim (sees area is) [
        | inl same ↦ same_or_dead area is (spares area is (subst (λ (c : Cell). Holds IsRecordText c v) (sym same) held))
        | inr both ↦ inr both.1
      ]

      abbrev HoldsIt : Cell → Type 0
      HoldsIt c = Holds IsRecordText c v

      rewrites_on : (n : ℕ) → Rewrites HoldsIt (record_block shape) (world mid).cells (world new).cells 4 n → Rewrites HoldsIt (record_block shape) (world old).cells (world new).cells 4 n
      rewrites_on n = rewrites_like HoldsIt (record_block shape) (world mid).cells (world new).cells HoldsIt (record_block shape) (world old).cells (world new).cells 4 n
          (λ area some most was. elim (sees area (some, most)) [ inl same ↦ (subst HoldsIt same was.0, was.1) | inr both ↦ absurd (subst HoldsIt both.0 was.0) ])
          (λ area some most was. elim (sees area (some, most)) [ inl same ↦ (subst HoldsIt (sym same) was.0, was.1) | inr both ↦ absurd (subst HoldsIt both.1 was.1) ])

      only_both : {two : Type 0} → ¬ two → ChangesCopiesAlone world reaches kinds.Record shape mid new two → OnlyRecord (shown_on old) (shown_on new)
      only_both none alone block apart = only_of mid new none alone block apart ∙ only_of old mid (λ two. two) look_ends.alone block apart

      may_on : (area : ℕ) → IsArea area → MayHold IsRecordText (cell_at (world mid).cells (record_block shape area)) v (cell_at (world new).cells (record_block shape area))
          → MayHold IsRecordText (cell_at (world old).cells (record_block shape area)) v (cell_at (world new).cells (record_block shape area))
      may_on area is (inl stays) = elim (sees area is) [ inl same ↦ inl (stays ∙ same) | inr both ↦ inr (inr (inr both.1)) ]
      may_on area is (inr other) = inr other

      module _ (left : LeavesCopies kinds.Record shape (world mid).cells (world new).cells (RecordValue v)) where
        stops_on : StopsAt IsRecordText (record_block shape) (world old).cells (world new).cells v left.stops.at
        stops_on = let stops_mid = record_stops shape v (world mid).cells (world new).cells left in
            record { done = stops_mid.done; to_come = λ area is later. same_or_dead area is (stops_mid.to_come area is later) }

        leaves_on : LeavesRecord (shown_on old) (shown_off new) v
        leaves_on = record {
          at = left.stops.at;
          stops = stops_on;
          may = λ area is. may_on area is (record_may shape v (world mid).cells (world new).cells left area is);
          stays_dead = λ area is was_dead. elim (sees area is) [
            | inl same ↦ record_stays_dead shape v (world mid).cells (world new).cells left area is (same ∙ was_dead)
            | inr both ↦ both.1
          ];
          one_lost = losing.record_lost shape (world old).cells (world new).cells v left.stops.at stops_on;
        }

  -- ---- it went to its end

  module _ (old mid new : M) (v : LeadRecord) (chosen : ChoosesRecord world reaches shape old mid v) (repairs : Repairs world reaches kinds.Record shape mid new (RecordValue v)) where
    put_ends : CallEnds world reaches kinds.Record shape mid new ⊥ (4 + 2 * repairs.firsts)
    put_ends = subst (CallEnds world reaches kinds.Record shape mid new ⊥)
        (let none = repairs.none (λ two. two) in let e : repair_uses_of (RecordValue v) (repairs.firsts + repairs.seconds) ≡ 4 + 2 * repairs.firsts = omega (arith, none) in e) repairs.ends

    dead_stays : (block : ℕ) → ((area : ℕ) × IsArea area × (block ≡ record_block shape area)) → cell_at (world mid).cells block ≡ Dead → cell_at (world new).cells block ≡ Dead
    dead_stays block of_record = (laws.follows mid new (4 + 2 * repairs.firsts) put_ends.continues.reach).lasts.stays_dead block

    pub both_continue : Continues world reaches old new (4 + (4 + 2 * repairs.firsts))
    both_continue = continues_then world block_count reaches laws old mid new 4 (4 + 2 * repairs.firsts) (look_ends old mid v chosen).continues put_ends.continues

    both_only : OnlyRecord (shown_on old) (shown_on new)
    both_only = only_both old mid v chosen new dead_stays (λ two. two) put_ends.alone

    mends : MendsRecord (shown_on old) (shown_on new) v
    mends = record {
      seen = (world mid).cells;
      sees = λ known. sees old mid v chosen new dead_stays;
      chosen = λ known. is_chosen old mid v chosen known;
      uses = 4 + 2 * repairs.firsts;
      repairs = record {
        rewritten = repairs.firsts;
        few = repairs.few;
        uses_are = refl;
        rewrites = λ known. rewrites_on old mid v chosen new dead_stays repairs.firsts
            (record_rewritten shape v (world mid).cells (world new).cells repairs.firsts repairs.seconds (repairs.rewrites (mid_known old mid v chosen known)));
      };
      keeps = record {
        was_on = (look_ends old mid v chosen).was_on;
        ends = machine_continues world reaches takes arms armed_cut control old new (4 + (4 + 2 * repairs.firsts)) both_continue;
        keeps = record { same_lists = refl; same_mark = refl };
        same_buffer = refl;
        only = both_only;
      };
      spares = λ known. spares_on old mid v chosen new dead_stays (record_spares shape v (world mid).cells (world new).cells repairs.spares);
    }

  module _ (old new : M) (v : LeadRecord) where
    mended_by : (readable : ℕ) (mid : M) (chosen : ChoosesRecord world reaches shape old mid v) → HasPutList world reaches kinds.Record shape mid new (RecordValue v) purposes.Repair readable
        → GenerationCause (shown_on old) (shown_on new) v (out_for readable)
    mended_by zero mid chosen put = record { mends = mends old mid new v chosen put.0; lost = λ known. record_lost shape v (world new).cells put.1.lost }
    mended_by (suc n) mid chosen put = record {
      mends = mends old mid new v chosen put.0;
      exact = λ known. record_exact shape v (world new).cells put.1.exact;
      left = λ known none. put.1.not_lost (mid_known old mid v chosen known) (record_all_lost shape v (world new).cells none);
    }

    pub mended : (readable : ℕ) → HasMended world reaches shape old new v readable → GenerationCause (shown_on old) (shown_on new) v (out_for readable)
    mended readable did = mended_by readable did.mid did.chosen did.put

    pub mended_only : (readable : ℕ) → HasMended world reaches shape old new v readable → OnlyRecord (shown_on old) (shown_on new)
    mended_only readable did = both_only old did.mid new v did.chosen did.put.0

    pub mended_continues : (readable : ℕ) → HasMended world reaches shape old new v readable → (uses : ℕ) × Continues world reaches old new uses
    mended_continues readable did = (4 + (4 + 2 * did.put.0.firsts), both_continue old did.mid new v did.chosen did.put.0)

  -- ---- it was stopped

  module _ (old new : M) (stop : Stop) where
    pub mending_stops : StopsMending world reaches shape old new stop → Stops world reaches old new 16 stop
    mending_stops (inl looked) = stops_within world block_count reaches laws old new 4 16 stop (omega arith) looked.within.stops
    mending_stops (inr was) = stops_after world block_count reaches laws old was.mid new 4 12 16 (omega arith) (look_ends old was.mid was.value was.chosen).continues stop was.put.within.stops

    was_on : StopsMending world reaches shape old new stop → IsTrue (world old).power
    was_on (inl looked) = looked.within.was_on
    was_on (inr was) = (look_ends old was.mid was.value was.chosen).was_on

    dead_there : (was : StopsInRepair world reaches shape old new stop) → (block : ℕ) → ((area : ℕ) × IsArea area × (block ≡ record_block shape area)) → cell_at (world was.mid).cells block ≡ Dead → cell_at (world new).cells block ≡ Dead
    dead_there was block (area, is, same) dead =
        subst (λ (b : ℕ). cell_at (world new).cells b ≡ Dead) (sym same)
        (record_stays_dead shape was.value (world was.mid).cells (world new).cells was.put.leaves area is (subst (λ (b : ℕ). cell_at (world was.mid).cells b ≡ Dead) same dead))

    stopped_only : StopsMending world reaches shape old new stop → OnlyRecord (shown_on old) (shown_off new)
    stopped_only (inl looked) = only_of old new (λ two. two) looked.within.alone
    stopped_only (inr was) = only_both old was.mid was.value was.chosen new (dead_there was) (λ two. two) was.put.within.alone

    -- a choice writes nothing
    looked_dies : StopsChoosing world reaches kinds.Record shape old new stop → AreSameOrDead (world old).cells (world new).cells
    looked_dies looked block = elim (record_decided shape block) [
      | inl (area, is, same) ↦ subst (λ (b : ℕ). IsSameOrDead (cell_at (world old).cells b) (cell_at (world new).cells b)) (sym same)
          (elim (looked.saw.firsts area is) [ inl stays ↦ inl stays | inr died ↦ inr died.0 ])
      | inr apart ↦ inl (only_of old new (λ two. two) looked.within.alone block apart)
    ]

    left_by : StopsMending world reaches shape old new stop → (world old).known ≡ true → AreSameOrDead (world old).cells (world new).cells ⊎ LeavesMending (shown_on old) (shown_off new)
    left_by (inl looked) known = inl (looked_dies looked)
    left_by (inr was) known = inr (record {
      seen = (world was.mid).cells;
      sees = sees old was.mid was.value was.chosen new (dead_there was);
      value = was.value;
      chosen = is_chosen old was.mid was.value was.chosen known;
      leaves = leaves_on old was.mid was.value was.chosen new (dead_there was) was.put.leaves;
      spares = spares_on old was.mid was.value was.chosen new (dead_there was) (record_spares shape was.value (world was.mid).cells (world new).cells was.put.spares);
    })

    stops_reading : StopsMending world reaches shape old new stop → StopsReadingRecord (shown_on old) (shown_off new) stop
    stops_reading was = record {
      was_on = was_on was;
      stopped = record {
        stops = machine_stops world reaches takes arms armed_cut control old new 16 16 refl stop (mending_stops was);
        no_lists = refl;
        no_mark = refl;
        no_buffer = refl;
      };
      only = stopped_only was;
      left = left_by was;
    }

  module _ (old new : M) (v : LeadRecord) where
    pub mending_stopped : (stop : Stop) → StopsMending world reaches shape old new stop → GenerationCause (shown_on old) (shown_off new) v (record_stopped_by stop)
    mending_stopped stops.Cut was = stops_reading old new stops.Cut was
    mending_stopped stops.Off was = absurd ((mending_stops old new stops.Off was).was_off (was_on old new stops.Off was))
    mending_stopped stops.Fault was = stops_reading old new stops.Fault was

-- what a repair of the record that was chosen does, by its answer
module _ {M : Type 0} (world : M → World) (reaches : M → M → Span → Type 0) (shape : Shape) (old mid new : M) (v : LeadRecord) (chosen : ChoosesRecord world reaches shape old mid v) where
  pub mended_result : (result : Result ℕ Stop)
      → MatchResult result (HasPutList world reaches kinds.Record shape mid new (RecordValue v) purposes.Repair) (StopsPuttingList world reaches kinds.Record shape mid new (RecordValue v) purposes.Repair)
      → MatchResult result (HasMended world reaches shape old new v) (StopsMending world reaches shape old new)
  mended_result (Ok readable) put = record { mid = mid; chosen = chosen; put = put }
  mended_result (Err stop) put = inr (record { value = v; mid = mid; chosen = chosen; put = put })
