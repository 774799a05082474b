-- What a mirror of two sides shows and stands for, by the sides' names.
use Rattle.std.specs.Prelude.{◌≡◌, Bool, true, false}
use Rattle.std.proofs.Common.{refl}
use Rattle.model_sectors.specs.Discs.{Standing}
use Rattle.model_mirror.proofs.Mapping.{stands_mapped}
use Rattle.model_mirror.specs.Sides.{side_a, side_b}
use Rattle.model_mirror.specs.Standing.{MayBe}
use Rattle.ram_sectors.specs.declared.Sectors.{Ghosts as Drives}
use Rattle.ram_sectors.specs.Laws.{SectorsLaws}
use Rattle.ram_mirror.specs.declared.following.Following.{Following}
use Rattle.ram_mirror.specs.declared.mirror.Mirror.{Mirror}
use Rattle.ram_mirror.specs.Mirrors.{roles, stands_roles, mirror_shows, mirror_stands}

module _ {S : Type 0} (sides : Drives S) where
  roles_a : (lead : Bool) (x y : S) (following : Following) → side_a (roles sides sides lead x y following) ≡ sides.shows x
  roles_a true x y following = refl
  roles_a false x y following = refl

  roles_b : (lead : Bool) (x y : S) (following : Following) → side_b (roles sides sides lead x y following) ≡ sides.shows y
  roles_b true x y following = refl
  roles_b false x y following = refl

  -- each side is shown as it is
  pub shown_a : (mirror : Mirror S S) → side_a (mirror_shows sides sides mirror) ≡ sides.shows mirror.a
  shown_a mirror = roles_a mirror.lead_is_a mirror.a mirror.b mirror.following

  pub shown_b : (mirror : Mirror S S) → side_b (mirror_shows sides sides mirror) ≡ sides.shows mirror.b
  shown_b mirror = roles_b mirror.lead_is_a mirror.a mirror.b mirror.following

  module _ (laws : SectorsLaws sides.shows sides.stands) where
    roles_may : (lead : Bool) (x y : S) (following : Following) (s : Standing) → stands_roles sides sides lead x y following s → MayBe (roles sides sides lead x y following) s
    roles_may true x y following s is = stands_mapped _ _ _ _ _ (λ t at. (laws.as_shown x t).0 at) (λ t at. (laws.as_shown y t).0 at) s is
    roles_may false x y following s is = stands_mapped _ _ _ _ _ (λ t at. (laws.as_shown y t).0 at) (λ t at. (laws.as_shown x t).0 at) s is

    roles_stand : (lead : Bool) (x y : S) (following : Following) (s : Standing) → MayBe (roles sides sides lead x y following) s → stands_roles sides sides lead x y following s
    roles_stand true x y following s is = stands_mapped _ _ _ _ _ (λ t at. (laws.as_shown x t).1 at) (λ t at. (laws.as_shown y t).1 at) s is
    roles_stand false x y following s is = stands_mapped _ _ _ _ _ (λ t at. (laws.as_shown y t).1 at) (λ t at. (laws.as_shown x t).1 at) s is

    -- it stands for just what goes with what it shows
    pub may_be : (mirror : Mirror S S) (s : Standing) → mirror_stands sides sides mirror s → MayBe (mirror_shows sides sides mirror) s
    may_be mirror s is = roles_may mirror.lead_is_a mirror.a mirror.b mirror.following s is

    pub it_stands : (mirror : Mirror S S) (s : Standing) → MayBe (mirror_shows sides sides mirror) s → mirror_stands sides sides mirror s
    it_stands mirror s is = roles_stand mirror.lead_is_a mirror.a mirror.b mirror.following s is
