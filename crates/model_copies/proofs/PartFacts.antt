-- What copies of one cell or two hold, and what a stopped call leaves of them, over any texts of two parts.
use Rattle.std.specs.Prelude.{◌≡◌, ◌≢◌, ℕ, ◌⊎◌, List, []}
use Rattle.std.proofs.Common.{sym, ◌∙◌, inl, inr, subst}
use Rattle.model_medium.specs.Cells.{Cell, Blank, Good, Torn, Dead, IsSameOrDead, cell_at}
use Rattle.model_copies.specs.Copies.{IsArea, Holds, HoldsOrDead, MayHold}
use Rattle.model_copies.specs.Parts.{AreAlike, HasParts, HasWhole, AreExact, LosesAll, AreHeldBy, SomeAlike, ArePartsBetween, MayLeaveParts, StayDead, PartsHoldNothingNew}
use Rattle.model_copies.proofs.CopyFacts.{holds_before}

-- ---- one cell

module _ {V : Type 0} (text : V → List ℕ → Type 0) where
  -- a cell that is exact or dead and holds something holds the exact text
  pub held_exact : (cell : Cell) (v w : V) → HoldsOrDead text cell v → Holds text cell w → Holds text cell v
  held_exact Blank v w exact h = absurd h
  held_exact (Good bytes) v w exact h = exact
  held_exact Torn v w exact h = absurd h
  held_exact Dead v w exact h = absurd h

  -- a cell that holds something is not dead
  pub held_alive : (cell : Cell) (v : V) → Holds text cell v → cell ≡ Dead → ⊥
  held_alive cell v h dead = subst (λ (c : Cell). Holds text c v) dead h

  -- what a cell held is there still where it is the same
  pub held_same : (old new : Cell) (v : V) → new ≡ old → Holds text new v → Holds text old v
  held_same old new v same h = subst (λ (c : Cell). Holds text c v) same h

  -- a cell that is as it was, and holds something, holds the value that all good ones held
  pub held_as_was : (old new : Cell) (v w : V) → ((bytes : List ℕ) → old ≡ Good bytes → text v bytes) → new ≡ old → Holds text new w → Holds text new v
  held_as_was old Blank v w was same h = absurd h
  held_as_was old (Good bytes) v w was same h = was bytes (sym same)
  held_as_was old Torn v w was same h = absurd h
  held_as_was old Dead v w was same h = absurd h

  -- what a stopped write may leave, where it holds something: it is as it was, or holds the new text
  pub left_or_held : (old new : Cell) (v w : V) → MayHold text old v new → Holds text new w → (new ≡ old) ⊎ Holds text new v
  left_or_held old new v w (inl same) h = inl same
  left_or_held old new v w (inr (inl held)) h = inr held
  left_or_held old new v w (inr (inr (inl torn))) h = absurd (subst (λ (c : Cell). Holds text c w) torn h)
  left_or_held old new v w (inr (inr (inr dead))) h = absurd (subst (λ (c : Cell). Holds text c w) dead h)

  -- two cells that hold one text of a value hold the same of each other
  pub held_there : ((v : V) (x y : List ℕ) → text v x → text v y → x ≡ y) → (here there : Cell) (v w : V) → Holds text here v → Holds text here w → Holds text there v → Holds text there w
  held_there one Blank there v w h k t = absurd h
  held_there one (Good x) Blank v w h k t = absurd t
  held_there one (Good x) (Good y) v w h k t = subst (text w) (one v x y h t) k
  held_there one (Good x) Torn v w h k t = absurd t
  held_there one (Good x) Dead v w h k t = absurd t
  held_there one Torn there v w h k t = absurd h
  held_there one Dead there v w h k t = absurd h

-- ---- two cells

-- What the texts of both parts tell.
pub record TellValues {V : Type 0} (two : V → Type 0) (first second : V → List ℕ → Type 0) : Type 0 where
  pub one_value : (v w : V) (x y : List ℕ) → first v x → first w x → (two v → second v y) → (two w → second w y) → v ≡ w
  pub same_parts : (v w : V) (x : List ℕ) → first v x → first w x → two v → two w
  pub one_first : (v : V) (x y : List ℕ) → first v x → first v y → x ≡ y
  pub one_second : (v : V) (x y : List ℕ) → second v x → second v y → x ≡ y
  pub two_decided : (v : V) → two v ⊎ ¬ two v

module _ {V : Type 0} (two : V → Type 0) (first second : V → List ℕ → Type 0) (place place' : ℕ → ℕ) where
  -- cells that turned dead hold nothing else
  pub parts_before : (old new : List Cell) (v : V) (a b : ℕ) → IsSameOrDead (cell_at old (place a)) (cell_at new (place a)) → IsSameOrDead (cell_at old (place' b)) (cell_at new (place' b))
      → HasParts two first second place place' new v a b → HasParts two first second place place' old v a b
  parts_before old new v a b dies dies' parts = record {
    is_area = parts.is_area;
    is_area' = parts.is_area';
    holds = holds_before first (cell_at old (place a)) (cell_at new (place a)) v dies parts.holds;
    holds' = λ t. holds_before second (cell_at old (place' b)) (cell_at new (place' b)) v dies' (parts.holds' t);
  }

  -- a version that has no copy left has none that can be read
  pub lost_none : (cells : List Cell) (v u : V) (area : ℕ) → LosesAll two first second place place' cells v → HasWhole two first second place place' cells u area → AreAlike two first second u v → ⊥
  lost_none cells v u area lost copy alike = elim (lost area copy.is_area) [
    | inl dead ↦ held_alive first (cell_at cells (place area)) u copy.holds dead
    | inr dead ↦ held_alive second (cell_at cells (place' area)) u (copy.holds' (alike.1 dead.0)) dead.1
  ]

  pub lost_still : (old new : List Cell) (v : V) → StayDead two first second place place' old new → LosesAll two first second place place' old v → LosesAll two first second place place' new v
  lost_still old new v stay lost area is = elim (lost area is) [
    | inl dead ↦ inl (stay.firsts area is dead)
    | inr dead ↦ inr (dead.0, stay.seconds area is dead.1)
  ]

  module _ (tells : TellValues two first second) where
    cells_tell : (c c' : Cell) (v w : V) → Holds first c v → Holds first c w → (two v → Holds second c' v) → (two w → Holds second c' w) → v ≡ w
    cells_tell Blank c' v w h k s t = absurd h
    cells_tell (Good x) Blank v w h k s t = tells.one_value v w x [] h k (λ n. absurd (s n)) (λ n. absurd (t n))
    cells_tell (Good x) (Good y) v w h k s t = tells.one_value v w x y h k s t
    cells_tell (Good x) Torn v w h k s t = tells.one_value v w x [] h k (λ n. absurd (s n)) (λ n. absurd (t n))
    cells_tell (Good x) Dead v w h k s t = tells.one_value v w x [] h k (λ n. absurd (s n)) (λ n. absurd (t n))
    cells_tell Torn c' v w h k s t = absurd h
    cells_tell Dead c' v w h k s t = absurd h

    cell_parts : (c : Cell) (v w : V) → Holds first c v → Holds first c w → two v → two w
    cell_parts Blank v w h k t = absurd h
    cell_parts (Good x) v w h k t = tells.same_parts v w x h k t
    cell_parts Torn v w h k t = absurd h
    cell_parts Dead v w h k t = absurd h

    -- two cells are the text of one value at most
    pub one_of_parts : (cells : List Cell) (v w : V) (a b : ℕ) → HasParts two first second place place' cells v a b → HasParts two first second place place' cells w a b → v ≡ w
    one_of_parts cells v w a b of_v of_w = cells_tell (cell_at cells (place a)) (cell_at cells (place' b)) v w of_v.holds of_w.holds of_v.holds' of_w.holds'

    -- the only value that exact cells hold, of whichever areas
    pub parts_exact : (cells : List Cell) (v w : V) (a b : ℕ) → AreExact two first second place place' cells v → HasParts two first second place place' cells w a b → w ≡ v
    parts_exact cells v w a b exact parts =
        let c = cell_at cells (place a) in
        let h : Holds first c v = held_exact first c v w (exact.firsts a parts.is_area) parts.holds in
        cells_tell c (cell_at cells (place' b)) w v parts.holds h parts.holds'
        (λ t. held_exact second (cell_at cells (place' b)) v w (exact.seconds t b parts.is_area') (parts.holds' (cell_parts c v w h parts.holds t)))

    -- What two cells hold now, two cells held before, where copies hold nothing new: a first cell that was written again
    -- has the text that the first cell of some copy had, and a second cell that of the second of some copy.
    pub parts_were : (old new : List Cell) (w : V) (a b : ℕ) → PartsHoldNothingNew two first second place place' old new → HasParts two first second place place' new w a b
        → (x : ℕ) × (y : ℕ) × HasParts two first second place place' old w x y
    parts_were old new w a b nothing parts = (
      first_was.0,
      second_was.0,
      record { is_area = first_was.1.0; is_area' = second_was.1.0; holds = first_was.1.1; holds' = second_was.1.1 },
    )
      where
        first_was : (x : ℕ) × (IsArea x × Holds first (cell_at old (place x)) w)
        first_was = elim (nothing.firsts a parts.is_area) [
          | inl same ↦ (a, (parts.is_area, held_same first (cell_at old (place a)) (cell_at new (place a)) w same parts.holds))
          | inr (inl torn) ↦ absurd (subst (λ (c : Cell). Holds first c w) torn parts.holds)
          | inr (inr (inl dead)) ↦ absurd (subst (λ (c : Cell). Holds first c w) dead parts.holds)
          | inr (inr (inr (v, at, copy, held))) ↦
              (at, (copy.is_area, held_there first tells.one_first (cell_at new (place a)) (cell_at old (place at)) v w held parts.holds copy.holds))
        ]

        second_of : two w → (y : ℕ) × (IsArea y × Holds second (cell_at old (place' y)) w)
        second_of t = elim (nothing.seconds b parts.is_area') [
          | inl same ↦ (b, (parts.is_area', held_same second (cell_at old (place' b)) (cell_at new (place' b)) w same (parts.holds' t)))
          | inr (inl torn) ↦ absurd (subst (λ (c : Cell). Holds second c w) torn (parts.holds' t))
          | inr (inr (inl dead)) ↦ absurd (subst (λ (c : Cell). Holds second c w) dead (parts.holds' t))
          | inr (inr (inr (v, at, t', copy, held))) ↦
              (at, (copy.is_area', held_there second tells.one_second (cell_at new (place' b)) (cell_at old (place' at)) v w held (parts.holds' t) (copy.holds' t')))
        ]

        second_was : (y : ℕ) × (IsArea y × (two w → Holds second (cell_at old (place' y)) w))
        second_was = elim (tells.two_decided w) [
          | inl t ↦ (let h = second_of t in (h.0, (h.1.0, λ _. h.1.1)))
          | inr one ↦ (b, (parts.is_area', λ t. absurd (one t)))
        ]

    -- a repair to a value of which some copy could be read leaves nothing new, wherever it is stopped
    pub nothing_new_from_repair : (old new : List Cell) (v : V) (home : ℕ) → HasWhole two first second place place' old v home → MayLeaveParts two first second place place' old new v
        → PartsHoldNothingNew two first second place place' old new
    nothing_new_from_repair old new v home copy left = record {
      firsts = λ area is. elim (left.firsts area is) [
        | inl same ↦ inl same
        | inr (inl held) ↦ inr (inr (inr (v, home, copy, held)))
        | inr (inr (inl torn)) ↦ inr (inl torn)
        | inr (inr (inr dead)) ↦ inr (inr (inl dead))
      ];
      seconds = λ area is. elim (left.seconds area is) [
        | inl same ↦ inl same
        | inr (t, inl same) ↦ inl same
        | inr (t, inr (inl held)) ↦ inr (inr (inr (v, home, t, copy, held)))
        | inr (t, inr (inr (inl torn))) ↦ inr (inl torn)
        | inr (t, inr (inr (inr dead))) ↦ inr (inr (inl dead))
      ];
    }

    -- ---- an update that is stopped

    module _ {H : Type 0} (head : V → H) (first_head : (v w : V) (x : List ℕ) → first v x → first w x → head v ≡ head w)
        (second_head : (v w : V) (x : List ℕ) → second v x → second w x → head v ≡ head w) (a b : V) (differ : head a ≢ head b)
        (few : two b → ¬ two a → (w : V) (x : List ℕ) → first b x → first w x → w ≡ b) where
      cell_head : (text : V → List ℕ → Type 0) → ((v w : V) (x : List ℕ) → text v x → text w x → head v ≡ head w) → (c : Cell) (v w : V) → Holds text c v → Holds text c w → head v ≡ head w
      cell_head text heads Blank v w h k = absurd h
      cell_head text heads (Good x) v w h k = heads v w x h k
      cell_head text heads Torn v w h k = absurd h
      cell_head text heads Dead v w h k = absurd h

      cell_few : two b → ¬ two a → (c : Cell) (w : V) → Holds first c b → Holds first c w → w ≡ b
      cell_few t one Blank w h k = absurd h
      cell_few t one (Good x) w h k = few t one w x h k
      cell_few t one Torn w h k = absurd h
      cell_few t one Dead w h k = absurd h

      -- of two cells of which the one holds a part of a and the other one of b, no value has a text
      mixed_none : (c c' : Cell) (w : V) → Holds first c w → Holds second c' w → (Holds first c a × Holds second c' b) ⊎ (Holds first c b × Holds second c' a) → ⊥
      mixed_none c c' w h k (inl (of_a, of_b)) = differ (sym (cell_head first first_head c w a h of_a) ∙ cell_head second second_head c' w b k of_b)
      mixed_none c c' w h k (inr (of_b, of_a)) = differ (sym (cell_head second second_head c' w a k of_a) ∙ cell_head first first_head c w b h of_b)

      module _ (old new : List Cell) (left : MayLeaveParts two first second place place' old new b) where
        -- a second cell is as it was, or holds the second part of b
        second_left : (y : ℕ) → IsArea y → (w : V) → Holds second (cell_at new (place' y)) w → (cell_at new (place' y) ≡ cell_at old (place' y)) ⊎ Holds second (cell_at new (place' y)) b
        second_left y is w h = elim (left.seconds y is) [
          | inl same ↦ inl same
          | inr (t, may) ↦ left_or_held second (cell_at old (place' y)) (cell_at new (place' y)) b w may h
        ]

        module _ (held : AreHeldBy two first second place place' old a) (w : V) (x y : ℕ) (parts : HasParts two first second place place' new w x y) where
          abbrev c : Cell
          c = cell_at new (place x)

          abbrev c' : Cell
          c' = cell_at new (place' y)

          -- a second cell that is as it was holds that of a
          second_a : two a → two w → cell_at new (place' y) ≡ cell_at old (place' y) → Holds second (cell_at new (place' y)) a
          second_a ta tw same = held_as_was second (cell_at old (place' y)) (cell_at new (place' y)) a w (held.seconds ta y parts.is_area') same (parts.holds' tw)

          -- the first cell holds that of a
          from_a : Holds first (cell_at new (place x)) a → w ≡ a
          from_a h = elim (tells.two_decided a) [
            | inr one ↦ cells_tell (cell_at new (place x)) (cell_at new (place' y)) w a parts.holds h parts.holds' (λ t. absurd (one t))
            | inl ta ↦
                let tw = cell_parts (cell_at new (place x)) a w h parts.holds ta in
                elim (second_left y parts.is_area' w (parts.holds' tw)) [
                  | inl same ↦ cells_tell (cell_at new (place x)) (cell_at new (place' y)) w a parts.holds h parts.holds' (λ _. second_a ta tw same)
                  | inr of_b ↦ absurd (mixed_none (cell_at new (place x)) (cell_at new (place' y)) w parts.holds (parts.holds' tw) (inl (h, of_b)))
                ]
          ]

          -- the first cell holds that of b
          from_b : Holds first (cell_at new (place x)) b → w ≡ b
          from_b h = elim (tells.two_decided b) [
            | inr one ↦ cells_tell (cell_at new (place x)) (cell_at new (place' y)) w b parts.holds h parts.holds' (λ t. absurd (one t))
            | inl tb ↦
                let tw = cell_parts (cell_at new (place x)) b w h parts.holds tb in
                elim (second_left y parts.is_area' w (parts.holds' tw)) [
                  | inr of_b ↦ cells_tell (cell_at new (place x)) (cell_at new (place' y)) w b parts.holds h parts.holds' (λ _. of_b)
                  | inl same ↦ elim (tells.two_decided a) [
                    | inl ta ↦ absurd (mixed_none (cell_at new (place x)) (cell_at new (place' y)) w parts.holds (parts.holds' tw) (inr (h, second_a ta tw same)))
                    | inr one ↦ cell_few tb one (cell_at new (place x)) w h parts.holds
                  ]
                ]
          ]

          held_between : (w ≡ a) ⊎ (w ≡ b)
          held_between = elim (left_or_held first (cell_at old (place x)) (cell_at new (place x)) b w (left.firsts x parts.is_area) parts.holds) [
            | inl same ↦ inl (from_a (held_as_was first (cell_at old (place x)) (cell_at new (place x)) a w (held.firsts x parts.is_area) same parts.holds))
            | inr of_b ↦ inr (from_b of_b)
          ]

        -- An update from a to b, stopped anywhere, leaves each text between both: of the copies of a and of b none was left,
        -- or each cell of a's that could be read held its part of a's text.
        pub stopped_between : StayDead two first second place place' old new
            → (LosesAll two first second place place' old a × LosesAll two first second place place' old b) ⊎ AreHeldBy two first second place place' old a
            → ArePartsBetween two first second place place' new a b
        stopped_between stay (inr held) = λ w x y parts some alike. held_between held w x y parts
        stopped_between stay (inl lost) = λ w x y parts some alike. absurd (by_version w some alike)
          where
            by_version : (w : V) → SomeAlike two first second place place' new w → AreAlike two first second w a ⊎ AreAlike two first second w b → ⊥
            by_version w some (inl like) = lost_none new a some.other some.area (lost_still old new a stay lost.0) some.copy ((λ t. like.0 (some.alike.0 t)), (λ t. some.alike.1 (like.1 t)))
            by_version w some (inr like) = lost_none new b some.other some.area (lost_still old new b stay lost.1) some.copy ((λ t. like.0 (some.alike.0 t)), (λ t. some.alike.1 (like.1 t)))
