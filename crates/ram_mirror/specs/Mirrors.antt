-- What a mirror shows and stands for, whichever side leads. (This project's own.)
use Rattle.std.specs.Prelude.{◌≡◌, Bool, true, false}
use Rattle.model_sectors.specs.Discs.{Standing}
use Rattle.model_mirror.specs.Shown.{MirrorShown}
use Rattle.ram_sectors.specs.declared.Sectors.{Ghosts as Drives}
use Rattle.ram_mirror.specs.declared.following.Following.{Following}
use Rattle.ram_mirror.specs.declared.mirror.Mirror.{Mirror}
use Rattle.ram_mirror.specs.Sides.{shown_by, stands_by}

module _ {A B : Type 0} (a : Drives A) (b : Drives B) where
  -- the roles of the sides, by which leads
  abbrev pub roles : Bool → A → B → Following → MirrorShown
  roles true x y following = shown_by a b true x y following
  roles false x y following = shown_by b a false y x following

  -- what it stands for, by which leads
  abbrev pub stands_roles : Bool → A → B → Following → Standing → Type 0
  stands_roles true x y following s = stands_by a b true x y following s
  stands_roles false x y following s = stands_by b a false y x following s

  -- what the mirror shows
  abbrev pub mirror_shows : Mirror A B → MirrorShown
  mirror_shows mirror = roles mirror.lead_is_a mirror.a mirror.b mirror.following

  -- what it stands for
  abbrev pub mirror_stands : Mirror A B → Standing → Type 0
  mirror_stands mirror s = stands_roles mirror.lead_is_a mirror.a mirror.b mirror.following s

-- It is off, these are its sides, and it is not known who leads.
pub record IsNew {A B : Type 0} (mirror : Mirror A B) (a : A) (b : B) : Type 0 where
  pub a_is : mirror.a ≡ a
  pub b_is : mirror.b ≡ b
  pub lead : mirror.lead_is_a ≡ true
  pub on : mirror.following.on ≡ false
  pub up : mirror.following.up ≡ false
  pub known : mirror.following.who.known ≡ false
  pub by_hand : mirror.following.who.by_hand ≡ false
  pub lead_seen : mirror.following.who.lead.seen ≡ false
  pub other_seen : mirror.following.who.other.seen ≡ false
