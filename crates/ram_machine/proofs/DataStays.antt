-- The data under a block stay where no event writes the block.
use Rattle.std.specs.Prelude.{◌≡◌, ◌≢◌, ℕ, ◌+◌, ◌<◌, ◌≤◌, ◌==◌, Bool, true, false, if◌then◌else◌, Option, Some, None, List, [], ◌∷◌, length, slice_index}
use Rattle.std.proofs.Common.{arith, refl, sym, ap, ◌∙◌, inl, inr, subst}
use Rattle.std.proofs.lemmas.Bool.{cases_lt}
use Rattle.model_bytes.specs.Bytes.{put_at}
use Rattle.model_bytes.specs.Known.{WhereKnown}
use Rattle.model_bytes.proofs.Laws.{length-put_at, get_or-put_at-below, get_or-put_at-past}
use Rattle.model_medium.specs.Machine.{Machine, is_killed, fate_due}
use Rattle.model_medium.specs.Exact.{Event, Read, Write, PowerOn, PowerOff}
use Rattle.model_medium.specs.Happened.{Happens}
use Rattle.model_medium.specs.declared.Fate.{Fate}
use Rattle.model_medium.specs.declared.Fate.TheVariants as fates
use Rattle.model_medium.specs.declared.ReadEnd.{ReadEnd}
use Rattle.model_medium.specs.declared.ReadEnd.TheVariants as reads
use Rattle.model_medium.specs.declared.WriteEnd.{WriteEnd}
use Rattle.model_medium.specs.declared.WriteEnd.TheVariants as writes
use Rattle.model_image.specs.Cells.{state_offset, data_offset, data_in, image_len}
use Rattle.model_image.specs.Writes.{with_state, dead_state, torn_state, good_state, worn_bytes, bytes_by, bytes_left, StopsInBytes}
use Rattle.model_image.proofs.Changes.{same_part}
use Rattle.ram_image.specs.EventBytes.{ReadBytes, WriteBytes, WearsBytes, LeavesBytes, MayWearBytes, MayLeaveBytes}
use Rattle.ram_machine.specs.Underwent.{InImage, DoesInImage, UnderwentEvents, WritesNone}

module _ (total block : ℕ) (inside : block < total) where
  -- the bytes of an image whose data in this block are the same
  record Spares (before after : List ℕ) : Type 0 where
    as_long : length after ≡ length before
    same : (k : ℕ) → data_offset total block ≤ k → k < data_offset total block + 32768 → slice_index after k ≡ slice_index before k

  spares_none : (held : List ℕ) → Spares held held
  spares_none held = record { as_long = refl; same = λ k low high. refl }

  spares_then : (a b c : List ℕ) → Spares a b → Spares b c → Spares a c
  spares_then a b c one two = record { as_long = two.as_long ∙ one.as_long; same = λ k low high. two.same k low high ∙ one.same k low high }

  spares_same : (a b : List ℕ) → b ≡ a → Spares a b
  spares_same a b is = subst (Spares a) (sym is) (spares_none a)

  -- a state byte, and the data of another block
  module _ (used : ℕ) (used_inside : used < total) (held : List ℕ) (long : length held ≡ image_len total) where
    state_spares : (state : ℕ) → Spares held (with_state used state held)
    state_spares state = record {
      as_long = length-put_at (state_offset used) (state ∷ []) held (omega (arith, long, used_inside));
      same = λ k low high. get_or-put_at-past k (state_offset used) (state ∷ []) held 0 (let past : state_offset used + 1 ≤ k = omega (arith, low, used_inside) in past) (omega (arith, long, used_inside));
    }

    worn_spares : (dies : Bool) → Spares held (worn_bytes dies used held)
    worn_spares true = state_spares dead_state
    worn_spares false = spares_none held

    data_spares : (from : List ℕ) → length from ≡ 32768 → used ≢ block → Spares held (put_at (data_offset total used) from held)
    data_spares from whole other = record {
      as_long = length-put_at (data_offset total used) from held (omega (arith, long, used_inside, whole));
      same = λ k low high. elim (cases_lt used block) [
        | inl before ↦ get_or-put_at-past k (data_offset total used) from held 0 (let past : data_offset total used + length from ≤ k = omega (arith, low, before, whole) in past) (omega (arith, long, used_inside))
        | inr after ↦ get_or-put_at-below k (data_offset total used) from held 0 (let below : k < data_offset total used = omega (arith, high, after, other) in below) (omega (arith, long, used_inside))
      ];
    }

  module _ (used : ℕ) (used_inside : used < total) (from : List ℕ) (whole : length from ≡ 32768) (other : used ≢ block) (held : List ℕ) (long : length held ≡ image_len total) where
    by_spares : (fate : Fate) → Spares held (bytes_by fate total used from held)
    by_spares fates.Old = spares_none held
    by_spares fates.New =
        let put = data_spares used used_inside held long from whole other in
        spares_then held (put_at (data_offset total used) from held) _ put (state_spares used used_inside (put_at (data_offset total used) from held) (put.as_long ∙ long) good_state)
    by_spares fates.Torn = state_spares used used_inside held long torn_state

    if_spares : (fate : Fate) (dead : Bool) → Spares held (if dead then held else bytes_by fate total used from held)
    if_spares fate true = spares_none held
    if_spares fate false = by_spares fate

    left_spares : (fate : Fate) → Spares held (bytes_left fate total used from held)
    left_spares fate = if_spares fate (slice_index held (state_offset used) == dead_state)

    stops_spares : (after : List ℕ) → StopsInBytes total used from held after → Spares held after
    stops_spares after stops = record {
      as_long = stops.puts.as_long;
      same = λ k low high. elim (stops.puts.each k) [
        | inl e ↦ e
        | inr put ↦ elim put [
          | inl here ↦ absurd (omega (arith, here.0, low, used_inside))
          | inr there ↦ elim (cases_lt used block) [
            | inl before ↦ absurd (omega (arith, there.1, low, before, whole))
            | inr after ↦ absurd (omega (arith, there.0, high, after, other))
          ]
        ]
      ];
    }

  -- bytes that are known, before and after
  abbrev SparesKnown : Option (List ℕ) → Option (List ℕ) → Type 0
  SparesKnown before after = WhereKnown before after (λ held held'. length held ≡ image_len total → Spares held held')

  known_none : (o : Option (List ℕ)) → SparesKnown o o
  known_none None = tt
  known_none (Some held) = λ long. spares_none held

  known_same : (before after : Option (List ℕ)) → after ≡ before → SparesKnown before after
  known_same before after is = subst (SparesKnown before) (sym is) (known_none before)

  known_then : (a b c : Option (List ℕ)) → SparesKnown a b → SparesKnown b c → SparesKnown a c
  known_then None None None one two = tt
  known_then None None (Some c) one two = absurd two
  known_then None (Some b) c one two = absurd one
  known_then (Some a) None c one two = absurd one
  known_then (Some a) (Some b) None one two = absurd two
  known_then (Some a) (Some b) (Some c) one two = λ long. let first = one long in spares_then a b c first (two (first.as_long ∙ long))

  lift : (R : List ℕ → List ℕ → Type 0) (before after : Option (List ℕ)) → ((a b : List ℕ) → R a b → length a ≡ image_len total → Spares a b) → WhereKnown before after R → SparesKnown before after
  lift R None None each known = tt
  lift R None (Some b) each known = absurd known
  lift R (Some a) None each known = absurd known
  lift R (Some a) (Some b) each known = each a b known

  -- what a read or a write of a block makes of them
  module _ (used : ℕ) (used_inside : used < total) (dies : Bool) (before after : Option (List ℕ)) where
    wears : (a b : List ℕ) → WearsBytes dies used a b → length a ≡ image_len total → Spares a b
    wears a b is long = subst (Spares a) (sym is) (worn_spares used used_inside a long dies)

    may_wear : (a b : List ℕ) → MayWearBytes dies used a b → length a ≡ image_len total → Spares a b
    may_wear a b (inl is) long = spares_same a b is
    may_wear a b (inr is) long = wears a b is long

    read_spares : (end : ReadEnd) → ReadBytes dies used before after end → SparesKnown before after
    read_spares reads.Done did = lift (WearsBytes dies used) before after wears did
    read_spares reads.Unreadable did = lift (WearsBytes dies used) before after wears did
    read_spares reads.Cut did = lift (WearsBytes dies used) before after wears did
    read_spares reads.Off did = known_same before after did
    read_spares reads.Failed did = lift (MayWearBytes dies used) before after may_wear did

    module _ (from : List ℕ) (whole : length from ≡ 32768) (other : used ≢ block) where
      leaves : (fate : Fate) (a b : List ℕ) → LeavesBytes dies fate total used from a b → length a ≡ image_len total → Spares a b
      leaves fate a b is long =
          let worn = worn_spares used used_inside a long dies in
          subst (Spares a) (sym is) (spares_then a (worn_bytes dies used a) _ worn (left_spares used used_inside from whole other (worn_bytes dies used a) (worn.as_long ∙ long) fate))

      may_leave : (a b : List ℕ) → MayLeaveBytes dies total used from a b → length a ≡ image_len total → Spares a b
      may_leave a b (inl is) long = spares_same a b is
      may_leave a b (inr stops) long =
          let worn = worn_spares used used_inside a long dies in
          spares_then a (worn_bytes dies used a) b worn (stops_spares used used_inside from whole other (worn_bytes dies used a) (worn.as_long ∙ long) b stops)

      cut_spares : (due : Option Fate) → WriteBytes dies due total used from before after writes.Cut → SparesKnown before after
      cut_spares None did = absurd did
      cut_spares (Some fate) did = lift (LeavesBytes dies fate total used from) before after (leaves fate) did

      write_spares : (due : Option Fate) (end : WriteEnd) → WriteBytes dies due total used from before after end → SparesKnown before after
      write_spares due writes.Done did = lift (LeavesBytes dies fates.New total used from) before after (leaves fates.New) did
      write_spares due writes.Cut did = cut_spares due did
      write_spares due writes.Off did = known_same before after did
      write_spares due writes.Failed did = lift (MayLeaveBytes dies total used from) before after may_leave did

  event_spares : (old new : InImage) (event : Event) → DoesInImage total old new event → WritesNone block (event ∷ []) → SparesKnown old.bytes new.bytes
  event_spares old new (Read used into into' end) did none = read_spares used did.lawful (is_killed used old.machine.arms) old.bytes new.bytes end did.bytes
  event_spares old new (Write used from end) did none =
      write_spares used did.lawful.0 (is_killed used old.machine.arms) old.bytes new.bytes from did.lawful.1 none.0 (fate_due old.machine.cut) end did.bytes
  event_spares old new PowerOn did none = known_same old.bytes new.bytes did.bytes
  event_spares old new PowerOff did none = known_same old.bytes new.bytes did.bytes

  events_spare : (old new : InImage) (events : List Event) → Happens (DoesInImage total) old events new → WritesNone block events → SparesKnown old.bytes new.bytes
  events_spare old new [] same none = known_same old.bytes new.bytes (ap (λ (x : InImage). x.bytes) same)
  events_spare old new (event ∷ events) did none = known_then old.bytes did.0.bytes new.bytes (events_spare old did.0 events did.1 none.1) (event_spares did.0 new event did.2 (none.0, tt))

  pub data_stay : (old new : Machine) (before after : List ℕ) (underwent : UnderwentEvents total old (Some before) new (Some after)) → length before ≡ image_len total → WritesNone block underwent.0
      → data_in total after block ≡ data_in total before block
  data_stay old new before after underwent long none =
      let spares = events_spare (record { machine = old; bytes = Some before }) (record { machine = new; bytes = Some after }) underwent.0 underwent.1 none long in
      same_part (data_offset total block) 32768 before after spares.as_long spares.same
