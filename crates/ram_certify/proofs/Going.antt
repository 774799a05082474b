-- How a certification continues, data block after data block.
use Rattle.std.specs.Prelude.{◌≡◌, ◌≢◌, ℕ, ◌+◌, ◌-◌, ◌*◌, ◌<◌, ◌≤◌, ◌⊎◌, true, IsTrue, List, [], ◌∷◌, ◌++◌, length, take, slice_index, get_or}
use Rattle.std.specs.Bool.{OnTrue}
use Rattle.std.proofs.Common.{sym, ap, ◌∙◌, inl, inr, subst, arith}
use Rattle.std.specs.List.{Contains}
use Rattle.std.specs.List.Sorted.{IsStrictlyIncreasing}
use Rattle.std.proofs.lemmas.Bool.{cases_eq, cases_lt}
use Rattle.std.proofs.lemmas.List.{map-id, length-append, take-append-le, take_all, length-take-le}
use Rattle.std.proofs.lemmas.List.Elements.{Contains-append_left, Contains-push, Contains-push_cases, Contains-get_or}
use Rattle.model_geometry.specs.Geometry.{Shape, data_blocks}
use Rattle.model_lists.specs.declared.dds.PdlEntry.{PdlEntry}
use Rattle.model_lists.proofs.Reading.{rises_on}
use Rattle.model_medium.specs.Cells.{Cell, Good, Dead, MayLeave, cell_at}
use Rattle.model_medium.specs.World.{World, Span}
use Rattle.model_stops.specs.Stops.{Continues, Stops}
use Rattle.model_stops.specs.declared.Stop.{Stop}
use Rattle.model_sectors.specs.Discs.{zeros}
use Rattle.model_formats.specs.Defects.{AreKept, IsCertified}
use Rattle.ram_medium.specs.Laws.{MediumLaws}
use Rattle.ram_medium.proofs.Parts.{continues_then, stops_later, stops_within}
use Rattle.ram_copies.specs.Puts.{IsBlockPut, IsBlockLost, StopsPutting}
use Rattle.ram_copies.proofs.Lifting.{quiet_counts, stopped_counts}
use Rattle.ram_certify.specs.Certifying.{HasCertified, StopsCertifying}
use Rattle.ram_certify.specs.Blocks.{IsNextKept}
use Rattle.ram_certify.proofs.CertifiedUpTo.{IsReached, IsFoundBy, HasCertifiedUpTo}
use Rattle.ram_certify.proofs.Passing.{is_certified, passed_by, passed_on, kept_is_not_certified, reached_here, reached_more, reached_before, reached_below, reached_all, not_reached, rest_is_room, passed_all}

-- one more, where there is room
take_more : (most : ℕ) (xs : List ℕ) (x : ℕ) → take most (take most xs ++ x ∷ []) ≡ take most (xs ++ x ∷ [])
take_more most xs x = elim (cases_lt (length xs) most) [
  | inl less ↦ ap (λ (ys : List ℕ). take most (ys ++ x ∷ [])) (take_all most xs (omega (arith, less)))
  | inr more ↦
      let full : length (take most xs) ≡ most = length-take-le most xs (omega (arith, more)) in
      take-append-le most (take most xs) (x ∷ []) (omega (arith, full)) ∙ take_all most (take most xs) (omega (arith, full))
      ∙ sym (take-append-le most xs (x ∷ []) (omega (arith, more)))
]

-- rising numbers with one more above them
rises_with : (xs : List ℕ) (x : ℕ) → IsStrictlyIncreasing xs → ((y : ℕ) → Contains xs y → y < x) → IsStrictlyIncreasing (xs ++ x ∷ [])
rises_with xs x rise above =
    subst IsStrictlyIncreasing (map-id (xs ++ x ∷ []))
    (rises_on (λ (y : ℕ). y) xs x (subst IsStrictlyIncreasing (sym (map-id xs)) rise)
    (λ k end. subst (λ (ys : List ℕ). get_or ys k 0 < x) (sym (map-id xs)) (above (get_or xs k 0) (Contains-get_or xs k 0 (omega (arith, end))))))

module _ {M : Type 0} (world : M → World) (block_count : M → ℕ) (reaches : M → M → Span → Type 0) (laws : MediumLaws world block_count reaches)
    (shape : Shape) (kept : List PdlEntry) (are : AreKept shape kept) (old : M) (most : ℕ) where
  module _ (mid new : M) (n passed count : ℕ) (found : List ℕ) (so_far : HasCertifiedUpTo world reaches shape kept old mid most n passed found count) (n_in : n < length (data_blocks shape)) where
    -- the block is kept
    pub kept_is_passed : IsNextKept kept passed (slice_index (data_blocks shape) n) → HasCertifiedUpTo world reaches shape kept old mid most (n + 1) (passed + 1) found count
    kept_is_passed next = record {
      continues = subst (λ (k : ℕ). Continues world reaches old mid (2 * k)) (same_rest n passed) so_far.continues;
      as_known = so_far.as_known;
      few = omega (arith, so_far.few);
      within = omega (arith, next.0);
      passed_are = passed_on shape kept are n passed so_far.passed_are n_in next;
      others = λ block apart. so_far.others block (λ h. apart (h.0, reached_more shape n n_in block h.1));
      done = λ block certified reached. so_far.done block certified (before block certified reached);
      left = so_far.left;
      unreadable = so_far.unreadable;
      rise = so_far.rise;
      each = λ block has. let f = so_far.each block has in record { certified = f.certified; reached = reached_more shape n n_in block f.reached; dead = f.dead };
      all = λ known block f. so_far.all known block (record { certified = f.certified; reached = before block f.certified f.reached; dead = f.dead });
      count_is = so_far.count_is;
      found_are = so_far.found_are;
    }
      where
        same_rest : (n passed : ℕ) → n - passed ≡ n + 1 - (passed + 1)
        same_rest n passed = omega arith

        before : (block : ℕ) → IsCertified shape (Contains kept) block → IsReached shape (n + 1) block → IsReached shape n block
        before block certified = reached_before shape n n_in block (λ same. kept_is_not_certified shape kept are n passed so_far.passed_are n_in next (subst (IsCertified shape (Contains kept)) same certified))

    module _ (other : ¬ IsNextKept kept passed (slice_index (data_blocks shape) n)) where
      goes_further : Continues world reaches mid new 2 → Continues world reaches old new (2 * (n + 1 - passed))
      goes_further continues = subst (λ (k : ℕ). Continues world reaches old new k) (uses n passed so_far.few) (continues_then world block_count reaches laws old mid new (2 * (n - passed)) 2 so_far.continues continues)
        where
          uses : (n passed : ℕ) → passed + count ≤ n → 2 * (n - passed) + 2 ≡ 2 * (n + 1 - passed)
          uses n passed few = omega (arith, few)

      here : IsCertified shape (Contains kept) (slice_index (data_blocks shape) n)
      here = is_certified shape kept are n passed so_far.passed_are n_in other

      module _ (others : (block : ℕ) → block ≢ slice_index (data_blocks shape) n → cell_at (world new).cells block ≡ cell_at (world mid).cells block) where
        all_others : (block : ℕ) → ¬ (IsCertified shape (Contains kept) block × IsReached shape (n + 1) block) → cell_at (world new).cells block ≡ cell_at (world old).cells block
        all_others block apart =
            others block (λ same. apart (subst (IsCertified shape (Contains kept)) (sym same) here, subst (IsReached shape (n + 1)) (sym same) (reached_here shape n n_in)))
            ∙ so_far.others block (λ h. apart (h.0, reached_more shape n n_in block h.1))

        all_done : (cell_at (world new).cells (slice_index (data_blocks shape) n) ≡ Good (zeros 32768)) ⊎ (cell_at (world new).cells (slice_index (data_blocks shape) n) ≡ Dead)
            → (block : ℕ) → IsCertified shape (Contains kept) block → IsReached shape (n + 1) block → (cell_at (world new).cells block ≡ Good (zeros 32768)) ⊎ (cell_at (world new).cells block ≡ Dead)
        all_done left block certified reached = elim (cases_eq block (slice_index (data_blocks shape) n)) [
          | inl same ↦ subst (λ (b : ℕ). (cell_at (world new).cells b ≡ Good (zeros 32768)) ⊎ (cell_at (world new).cells b ≡ Dead)) (sym same) left
          | inr differ ↦ subst (λ (c : Cell). (c ≡ Good (zeros 32768)) ⊎ (c ≡ Dead)) (sym (others block differ)) (so_far.done block certified (reached_before shape n n_in block differ reached))
        ]

        all_left : MayLeave (cell_at (world mid).cells (slice_index (data_blocks shape) n)) (zeros 32768) (cell_at (world new).cells (slice_index (data_blocks shape) n))
            → (block : ℕ) → MayLeave (cell_at (world old).cells block) (zeros 32768) (cell_at (world new).cells block)
        all_left left block = elim (cases_eq block (slice_index (data_blocks shape) n)) [
          | inl same ↦ subst (λ (b : ℕ). MayLeave (cell_at (world old).cells b) (zeros 32768) (cell_at (world new).cells b)) (sym same)
              (subst (λ (c : Cell). MayLeave c (zeros 32768) (cell_at (world new).cells (slice_index (data_blocks shape) n)))
              (so_far.others (slice_index (data_blocks shape) n) (λ h. not_reached shape n n_in h.1)) left)
          | inr differ ↦ subst (λ (c : Cell). MayLeave (cell_at (world old).cells block) (zeros 32768) c) (sym (others block differ)) (so_far.left block)
        ]

        -- a block that was found before is found still
        found_still : (block : ℕ) → IsFoundBy world reaches shape kept old mid n block → IsFoundBy world reaches shape kept old new (n + 1) block
        found_still block f =
            let below = reached_below shape n n_in block f.certified.data_block f.reached in
            record {
              certified = f.certified;
              reached = reached_more shape n n_in block f.reached;
              dead = others block (λ same. omega (arith, below, same)) ∙ f.dead;
            }

        found_before : (block : ℕ) → block ≢ slice_index (data_blocks shape) n → IsFoundBy world reaches shape kept old new (n + 1) block → IsFoundBy world reaches shape kept old mid n block
        found_before block differ f = record {
          certified = f.certified;
          reached = reached_before shape n n_in block differ f.reached;
          dead = sym (others block differ) ∙ f.dead;
        }

      good_or_dead : {was cell : Cell} → (cell ≡ Good (zeros 32768)) ⊎ (cell ≡ Dead) → MayLeave was (zeros 32768) cell
      good_or_dead (inl good) = inr (inl good)
      good_or_dead (inr dead) = inr (inr (inr dead))

      -- the block can be read
      pub block_kept : IsBlockPut world reaches mid new (slice_index (data_blocks shape) n) (zeros 32768) → HasCertifiedUpTo world reaches shape kept old new most (n + 1) passed found count
      block_kept put = record {
        continues = goes_further put.continues;
        as_known = put.as_known ∙ so_far.as_known;
        few = omega (arith, so_far.few);
        within = so_far.within;
        passed_are = passed_by shape kept are n passed so_far.passed_are n_in other;
        others = all_others put.others;
        done = all_done put.others put.left;
        left = all_left put.others (good_or_dead put.left);
        unreadable = so_far.unreadable;
        rise = so_far.rise;
        each = λ block has. found_still put.others block (so_far.each block has);
        all = λ known block f. elim (cases_eq block (slice_index (data_blocks shape) n)) [
          | inl same ↦ absurd (not_dead known (subst (λ (b : ℕ). cell_at (world new).cells b ≡ Dead) same f.dead))
          | inr differ ↦ so_far.all known block (found_before put.others block differ f)
        ];
        count_is = so_far.count_is;
        found_are = so_far.found_are;
      }
        where
          good_here : (known : (world mid).known ≡ true) → cell_at (world new).cells (slice_index (data_blocks shape) n) ≡ Good (zeros 32768)
          good_here known = subst (λ (b : _). OnTrue b (cell_at (world new).cells (slice_index (data_blocks shape) n) ≡ Good (zeros 32768))) known put.has

          not_dead : (world old).known ≡ true → cell_at (world new).cells (slice_index (data_blocks shape) n) ≡ Dead → ⊥
          not_dead known dead = let e : Good (zeros 32768) ≡ Dead = sym (good_here (so_far.as_known ∙ known)) ∙ dead in cc

      -- the block is dead: it is found
      pub block_found : IsBlockLost world reaches mid new (slice_index (data_blocks shape) n) (zeros 32768)
          → HasCertifiedUpTo world reaches shape kept old new most (n + 1) passed (take most (found ++ slice_index (data_blocks shape) n ∷ [])) (count + 1)
      block_found lost = record {
        continues = goes_further lost.continues;
        as_known = lost.as_known ∙ so_far.as_known;
        few = omega (arith, so_far.few);
        within = so_far.within;
        passed_are = passed_by shape kept are n passed so_far.passed_are n_in other;
        others = all_others lost.others;
        done = all_done lost.others (inr lost.dead);
        left = all_left lost.others (inr (inr (inr lost.dead)));
        unreadable = so_far.unreadable ++ slice_index (data_blocks shape) n ∷ [];
        rise = rises_with so_far.unreadable (slice_index (data_blocks shape) n) so_far.rise (λ y has. let f = so_far.each y has in reached_below shape n n_in y f.certified.data_block f.reached);
        each = λ block has. elim (Contains-push_cases so_far.unreadable (slice_index (data_blocks shape) n) block has) [
          | inl was ↦ found_still lost.others block (so_far.each block was)
          | inr same ↦ subst (IsFoundBy world reaches shape kept old new (n + 1)) same (record { certified = here; reached = reached_here shape n n_in; dead = lost.dead })
        ];
        all = λ known block f. elim (cases_eq block (slice_index (data_blocks shape) n)) [
          | inl same ↦ subst (Contains (so_far.unreadable ++ slice_index (data_blocks shape) n ∷ [])) (sym same) (Contains-push so_far.unreadable (slice_index (data_blocks shape) n))
          | inr differ ↦ Contains-append_left so_far.unreadable (slice_index (data_blocks shape) n ∷ []) block (so_far.all known block (found_before lost.others block differ f))
        ];
        count_is = let e = length-append so_far.unreadable (slice_index (data_blocks shape) n ∷ []) in omega (arith, e, so_far.count_is);
        found_are = ap (λ (xs : List ℕ). take most (xs ++ slice_index (data_blocks shape) n ∷ [])) so_far.found_are ∙ take_more most so_far.unreadable (slice_index (data_blocks shape) n);
      }

      -- it was stopped at this block
      pub certifying_stops : (stop : Stop) → IsTrue (world old).power → StopsPutting world reaches mid new (slice_index (data_blocks shape) n) (zeros 32768) stop → StopsCertifying world reaches shape kept old new stop
      certifying_stops stop on halts = record {
        was_on = on;
        stops = stopped;
        counts = stopped_counts world block_count reaches laws old new (2 * (length (data_blocks shape) - length kept)) stop stopped;
        alone = record {
          as_known = halts.as_known ∙ so_far.as_known;
          others = λ block apart. halts.others block (λ same. apart (subst (IsCertified shape (Contains kept)) (sym same) here)) ∙ so_far.others block (λ h. apart h.0);
        };
        left = all_left halts.others halts.left;
      }
        where
          stopped : Stops world reaches old new (2 * (length (data_blocks shape) - length kept)) stop
          stopped = stops_within world block_count reaches laws old new (2 * (n - passed) + 2) (2 * (length (data_blocks shape) - length kept)) stop
              (let h = rest_is_room shape kept are n passed so_far.passed_are n_in other so_far.within in let few = so_far.few in let within = so_far.within in omega (arith, h, few, within))
              (stops_later world block_count reaches laws old mid new (2 * (n - passed)) 2 stop so_far.continues halts.stops)

  -- all data blocks were looked at
  pub certified_all : (new : M) (passed count : ℕ) (found : List ℕ) → IsTrue (world old).power
      → HasCertifiedUpTo world reaches shape kept old new most (length (data_blocks shape)) passed found count → HasCertified world reaches shape kept old new most found count
  certified_all new passed count found on so_far = record {
    was_on = on;
    continues = goes_on;
    counts = quiet_counts world block_count reaches laws old new (2 * (length (data_blocks shape) - length kept)) goes_on;
    alone = record { as_known = so_far.as_known; others = λ block apart. so_far.others block (λ h. apart h.0) };
    certified = λ known block is. so_far.done block is (reached_all shape block);
    unreadable = so_far.unreadable;
    are = record {
      rise = so_far.rise;
      each = λ block has. let f = so_far.each block has in record { certified = f.certified; dead = f.dead };
      all = λ known block f. so_far.all known block (record { certified = f.certified; reached = reached_all shape block; dead = f.dead });
    };
    count_is = so_far.count_is;
    found_are = so_far.found_are;
  }
    where
      goes_on : Continues world reaches old new (2 * (length (data_blocks shape) - length kept))
      goes_on = subst (λ (p : ℕ). Continues world reaches old new (2 * (length (data_blocks shape) - p))) (passed_all shape kept are passed so_far.within so_far.passed_are) so_far.continues
