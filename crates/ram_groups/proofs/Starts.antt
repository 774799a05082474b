-- The places where the zones begin, while the table is made.
use Rattle.std.proofs.Common.{◌≡◌, ℕ, ◌+◌, ◌^◌, ◌<◌, ◌≤◌, inl, inr, List, [], ◌∷◌, ◌++◌, length, sym, ap, ◌∙◌, arith}
use Rattle.std.specs.Prelude.{slice_index}
use Rattle.std.proofs.lemmas.Bool.{cases_lt}
use Rattle.std.proofs.lemmas.List.{length-append, get_or_append_left, get_or-append-add}
use Rattle.model_geometry.specs.Geometry.{Shape, IsLawful}
use Rattle.model_geometry.proofs.DataBlocks.{zones_data}
use Rattle.model_geometry.proofs.Zones.{zone_start_rises, total_most}
use Rattle.ram_layout.specs.Filling.{HasZones, kept_in}
use Rattle.ram_runs.specs.declared.Run.{Run}
use Rattle.ram_runs.specs.Runs.{blocks_in, end_of}
use Rattle.ram_groups.specs.Zoning.{AreStarts}

pub no_starts : (shape : Shape) (slipped starts : List ℕ) → starts ≡ [] → AreStarts shape slipped 0 starts
no_starts shape slipped starts none = record { many = ap length none; each = λ zone less. absurd (omega (arith, less)) }

-- the place behind the blocks of the zones before is where the next begins
pub starts_more : (shape : Shape) (slipped starts starts' : List ℕ) (zone passed count : ℕ) (runs : List Run) → AreStarts shape slipped zone starts → HasZones shape slipped zone passed runs
    → count ≡ length (blocks_in runs) → starts' ≡ starts ++ (count ∷ []) → AreStarts shape slipped (zone + 1) starts'
starts_more shape slipped starts starts' zone passed count runs are made counted put =
    let long = length-append starts (count ∷ []) in
    record {
      many = omega (arith, ap length put, long, are.many);
      each = λ z less. elim (cases_lt z zone) [
        | inl earlier ↦ ap (λ (l : List ℕ). slice_index l z) put ∙ get_or_append_left starts (count ∷ []) 0 z (omega (arith, earlier, are.many)) ∙ are.each z earlier
        | inr last ↦ (let same : z ≡ zone = omega (arith, less, last) in
            let at : z ≡ length starts + 0 = omega (arith, same, are.many) in
            ap (λ (l : List ℕ). slice_index l z) put
            ∙ ap (slice_index (starts ++ (count ∷ []))) at
            ∙ get_or-append-add starts (count ∷ []) 0 0
            ∙ counted
            ∙ ap length made.blocks
            ∙ ap (λ (w : ℕ). length (kept_in slipped (zones_data shape w))) (sym same))
      ];
    }

-- the runs of some zones end early
pub small_end : (shape : Shape) → IsLawful shape → (slipped : List ℕ) (zone passed : ℕ) (runs : List Run) → zone ≤ shape.zones → HasZones shape slipped zone passed runs → end_of 0 runs < 2 ^ 32
small_end shape lawful slipped zone passed runs within made =
    let behind = made.behind in
    omega (arith, behind, zone_start_rises shape zone shape.zones within, total_most shape lawful)
