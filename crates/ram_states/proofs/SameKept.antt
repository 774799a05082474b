-- Two words for what a format keeps that mean the same: what is said with one is so with the other.
use Rattle.std.proofs.Common.{ℕ, ◌<◌, ◌≤◌, inl, inr, Bool, List, length, get_or, sym, subst, arith}
use Rattle.std.specs.List.{All, Contains, filter}
use Rattle.std.proofs.lemmas.List.{get_or-map, length-map}
use Rattle.std.proofs.lemmas.List.Elements.{All-contains, Contains-get_or}
use Rattle.std.proofs.lemmas.List.Kept.{IsStrictlyIncreasing-filter}
use Rattle.model_geometry.specs.Geometry.{Shape, is_inside}
use Rattle.model_lists.specs.declared.dds.PdlEntry.{PdlEntry}
use Rattle.model_lists.specs.declared.dds.PdlKind.{PdlKind}
use Rattle.model_lists.specs.Values.{pdl_blocks}
use Rattle.model_medium.specs.Cells.{Cell}
use Rattle.model_pools.proofs.Listed.{Contains-filter, Contains-from_filter}
use Rattle.model_places.specs.Valid.{SlipsFew, slipped_in}
use Rattle.model_places.proofs.ByKind.{cases_kind, slips_few, slips_few_from, zones_few, zones_few_from}
use Rattle.model_formats.specs.Defects.{IsCertified, AreCertified, ChangesFormatted, IsFoundDefective, AreDefective}
use Rattle.ram_format.proofs.Found.{few_within}
use Rattle.ram_format.proofs.Keeps.{block_of_entry}

module _ (shape : Shape) (P Q : PdlEntry → Type 0) (to : (entry : PdlEntry) → P entry → Q entry) (from : (entry : PdlEntry) → Q entry → P entry) where
  certified_to : (block : ℕ) → IsCertified shape P block → IsCertified shape Q block
  certified_to block is = record { data_block = is.data_block; not_kept = λ entry kept. is.not_kept entry (from entry kept) }

  certified_from : (block : ℕ) → IsCertified shape Q block → IsCertified shape P block
  certified_from block is = record { data_block = is.data_block; not_kept = λ entry kept. is.not_kept entry (to entry kept) }

  pub same_certified : (cells : List Cell) → AreCertified shape P cells → AreCertified shape Q cells
  same_certified cells are block is = are block (certified_from block is)

  pub same_changes : (old new : List Cell) → ChangesFormatted shape P old new → ChangesFormatted shape Q old new
  same_changes old new only block no_list not_certified = only block no_list (λ is. not_certified (certified_to block is))

  module _ (kind : PdlKind) (cells : List Cell) where
    found_to : (entry : PdlEntry) → IsFoundDefective shape P kind cells entry → IsFoundDefective shape Q kind cells entry
    found_to entry is = record { certified = certified_to entry.block is.certified; dead = is.dead; kind_is = is.kind_is }

    found_from : (entry : PdlEntry) → IsFoundDefective shape Q kind cells entry → IsFoundDefective shape P kind cells entry
    found_from entry is = record { certified = certified_from entry.block is.certified; dead = is.dead; kind_is = is.kind_is }

    pub same_defective : (entries : List PdlEntry) → AreDefective shape P kind cells entries → AreDefective shape Q kind cells entries
    same_defective entries are = record {
      rise = are.rise;
      each = λ entry has. elim (are.each entry has) [ inl kept ↦ inl (to entry kept) | inr found ↦ inr (found_to entry found) ];
      kept = λ entry kept. are.kept entry (from entry kept);
      found = λ entry found. are.found entry (found_from entry found);
    }

-- the defective blocks are one list's worth: where those of one list are few enough to be slipped, so are another's
module _ (shape : Shape) (P : PdlEntry → Type 0) (kind : PdlKind) (cells : List Cell) (entries others : List PdlEntry) (are : AreDefective shape P kind cells entries) (too : AreDefective shape P kind cells others) where
  in_both : (entry : PdlEntry) → Contains others entry → Contains entries entry
  in_both entry has = elim (too.each entry has) [ inl kept ↦ are.kept entry kept | inr found ↦ are.found entry found ]

  blocks_in : All (Contains (pdl_blocks entries)) (pdl_blocks others)
  blocks_in k d within =
      let inside : k < length others = omega (arith, within, length-map others (λ (x : PdlEntry). x.block)) in
      let e : PdlEntry = record { kind = kind; block = d } in
      subst (Contains (pdl_blocks entries)) (sym (get_or-map (λ (x : PdlEntry). x.block) others k e d inside))
      (block_of_entry entries (get_or others k e) (in_both (get_or others k e) (Contains-get_or others k e inside)))

  -- so each zone has no more of them
  inside_in : (zone : ℕ) → All (Contains (filter (λ block. is_inside shape block zone) (pdl_blocks entries))) (filter (λ block. is_inside shape block zone) (pdl_blocks others))
  inside_in zone k d within =
      let p : ℕ → Bool = λ block. is_inside shape block zone in
      let block = get_or (filter p (pdl_blocks others)) k d in
      let has = Contains-from_filter p (pdl_blocks others) block (Contains-get_or (filter p (pdl_blocks others)) k d within) in
      Contains-filter p (pdl_blocks entries) block has.0 (All-contains (Contains (pdl_blocks entries)) (pdl_blocks others) block blocks_in has.1)

  no_more_inside : (zone : ℕ) → slipped_in shape (pdl_blocks others) zone ≤ slipped_in shape (pdl_blocks entries) zone
  no_more_inside zone =
      let p : ℕ → Bool = λ block. is_inside shape block zone in
      few_within (filter p (pdl_blocks entries)) (filter p (pdl_blocks others)) (IsStrictlyIncreasing-filter p (pdl_blocks entries) are.rise) (IsStrictlyIncreasing-filter p (pdl_blocks others) too.rise) (inside_in zone)

  pub still_few : SlipsFew shape (pdl_blocks entries) → SlipsFew shape (pdl_blocks others)
  still_few few = elim (cases_kind shape.layout) [
    | inl is ↦ slips_few_from shape is (pdl_blocks others)
        (let most = slips_few shape is (pdl_blocks entries) few in let less = few_within (pdl_blocks entries) (pdl_blocks others) are.rise too.rise blocks_in in omega (arith, most, less))
    | inr is ↦ zones_few_from shape is (pdl_blocks others)
        (λ zone within. let most = zones_few shape is (pdl_blocks entries) few zone within in let less = no_more_inside zone in omega (arith, most, less))
  ]
