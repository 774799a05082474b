-- Which copies a stopped call leaves that could be read before it.
use Rattle.std.specs.Prelude.{◌≡◌, ◌≢◌, ℕ, ◌<◌, List}
use Rattle.std.proofs.Common.{sym, ◌∙◌, inl, inr, subst, arith}
use Rattle.std.proofs.lemmas.Bool.{cases_eq, cases_lt}
use Rattle.model_geometry.specs.Geometry.{Shape, dds_block, sdl_block, sdl_second_block, record_block}
use Rattle.model_lists.specs.declared.versions.Version.{Version}
use Rattle.model_lists.specs.Values.{Dds, Sdl}
use Rattle.model_lists.specs.Texts.{IsDdsText, IsSdlText, IsSdlSecond}
use Rattle.model_lists.specs.Records.{LeadRecord, IsRecordText}
use Rattle.model_medium.specs.Cells.{Cell, Dead, cell_at}
use Rattle.model_copies.specs.Copies.{Holds, HasDdsCopy, HasCopy}
use Rattle.model_copies.specs.Parts.{HasSdlCopy}
use Rattle.model_copies.specs.Stops.{StopsAt}
use Rattle.model_places.specs.Places.{Lists}
use Rattle.model_volume.specs.Given.{AreSettled, AreSeen, AreChosen}
use Rattle.model_survival.specs.Stops.{LeavesDds, LeavesSdl, SdlCellsDie, MendsChosen, StopsMounting}
use Rattle.model_survival.specs.Findable.{DdsLives, SdlLives, ListCellsDie}
use Rattle.model_survival.specs.Losing.{LosesOneDds, LosesOneSdl, LosesOneRecord, LosesOneAtMost, HaveOneVersion}
use Rattle.model_survival.proofs.Finding.{alive_holds, holds_on, lives_has, die_of_loses, die_of_seen, parts_were_there}

module _ (shape : Shape) (old new : List Cell) where
  -- ---- the structure

  module _ (dds : Dds) (left : LeavesDds shape old new dds) where
    dds_there : (v : Dds) (area : ℕ) → HasDdsCopy shape old v area → area ≢ left.at → DdsLives shape new area → (now : Dds) × HasDdsCopy shape new now area
    dds_there v area copy other lives = elim (cases_lt area left.at) [
      | inl sooner ↦ (dds, record { is_area = copy.is_area; holds = alive_holds IsDdsText (cell_at new (dds_block shape area)) dds (left.stops.done area copy.is_area sooner) lives })
      | inr not ↦ (
        v,
        record {
          is_area = copy.is_area;
          holds = holds_on IsDdsText (cell_at old (dds_block shape area)) (cell_at new (dds_block shape area)) v (left.stops.to_come area copy.is_area (omega (arith, other, not))) copy.holds lives;
        },
      )
    ]

    pub dds_lost : LosesOneDds shape old new
    dds_lost = record { at = left.at; others = dds_there }

  -- ---- the secondary list

  module _ (value : Sdl) (left : LeavesSdl shape old new value) where
    module _ (v : Sdl) (area : ℕ) (same : v.version ≡ value.version) (copy : HasSdlCopy shape old v area) (lives : SdlLives shape new value.version area) where
      done_there : area < left.stops.at → HasSdlCopy shape new value area
      done_there sooner = record {
        is_area = copy.is_area;
        is_area' = copy.is_area';
        holds = alive_holds IsSdlText (cell_at new (sdl_block shape area)) value (left.stops.firsts.done area copy.is_area sooner) lives.first;
        holds' = λ two. alive_holds IsSdlSecond (cell_at new (sdl_second_block shape area)) value ((left.stops.seconds two).done area copy.is_area sooner) (lives.second two);
      }

      stays_there : left.stops.at < area → HasSdlCopy shape new v area
      stays_there later = record {
        is_area = copy.is_area;
        is_area' = copy.is_area';
        holds = holds_on IsSdlText (cell_at old (sdl_block shape area)) (cell_at new (sdl_block shape area)) v (left.stops.firsts.to_come area copy.is_area later) copy.holds lives.first;
        holds' = λ two. holds_on IsSdlSecond (cell_at old (sdl_second_block shape area)) (cell_at new (sdl_second_block shape area)) v ((left.stops.seconds (sym same ∙ two)).to_come area copy.is_area later) (copy.holds' two) (lives.second (sym same ∙ two));
      }

      sdl_there : area ≢ left.stops.at → (w : Sdl) × HasSdlCopy shape new w area
      sdl_there other = elim (cases_lt area left.stops.at) [
        | inl sooner ↦ (value, done_there sooner)
        | inr not ↦ (v, stays_there (omega (arith, other, not)))
      ]

    pub sdl_lost : LosesOneSdl shape old new value.version
    sdl_lost = record { at = left.stops.at; others = λ v area same copy other lives. sdl_there v area same copy lives other }

  -- ---- the record of the lead

  module _ (value : LeadRecord) (at : ℕ) (stops : StopsAt IsRecordText (record_block shape) old new value at) where
    record_there : (v : LeadRecord) (area : ℕ) → HasCopy IsRecordText (record_block shape) old v area → area ≢ at → cell_at new (record_block shape area) ≢ Dead
        → (now : LeadRecord) × HasCopy IsRecordText (record_block shape) new now area
    record_there v area copy other alive = elim (cases_lt area at) [
      | inl sooner ↦ (value, record { is_area = copy.is_area; holds = alive_holds IsRecordText (cell_at new (record_block shape area)) value (stops.done area copy.is_area sooner) alive })
      | inr not ↦ (
        v,
        record {
          is_area = copy.is_area;
          holds = holds_on IsRecordText (cell_at old (record_block shape area)) (cell_at new (record_block shape area)) v (stops.to_come area copy.is_area (omega (arith, other, not))) copy.holds alive;
        },
      )
    ]

    pub record_lost : LosesOneRecord shape old new
    record_lost = record { at = at; others = record_there }

  -- ---- both lists

  pub settled_lost : (lists : Lists) → AreSettled shape new lists → LosesOneAtMost shape old new lists.sdl.version
  settled_lost lists settled = record {
    dds = record {
      at = 0;
      others = λ v area copy other lives. (lists.dds, record { is_area = copy.is_area; holds = alive_holds IsDdsText (cell_at new (dds_block shape area)) lists.dds (settled.dds area copy.is_area) lives });
    };
    sdl = record { at = 0; others = λ v area same copy other lives. (lists.sdl, lives_has shape new lists.sdl area settled.sdl copy.is_area lives) };
  }

  -- the cells of both lists' copies died
  pub sdl_died : (version : Version) → SdlCellsDie shape old new → LosesOneSdl shape old new version
  sdl_died version die = record {
    at = 0;
    others = λ v area same copy other lives. (
      v,
      record {
        is_area = copy.is_area;
        is_area' = copy.is_area';
        holds = holds_on IsSdlText (cell_at old (sdl_block shape area)) (cell_at new (sdl_block shape area)) v (die.firsts area copy.is_area) copy.holds lives.first;
        holds' = λ two. holds_on IsSdlSecond (cell_at old (sdl_second_block shape area)) (cell_at new (sdl_second_block shape area)) v (die.seconds area copy.is_area) (copy.holds' two) (lives.second (sym same ∙ two));
      },
    );
  }

  pub died_lost : (version : Version) → ListCellsDie shape old new → LosesOneAtMost shape old new version
  died_lost version die = record {
    dds = record {
      at = 0;
      others = λ v area copy other lives. (
        v,
        record { is_area = copy.is_area; holds = holds_on IsDdsText (cell_at old (dds_block shape area)) (cell_at new (dds_block shape area)) v (die.dds area copy.is_area) copy.holds lives },
      );
    };
    sdl = sdl_died version die.sdl;
  }

  -- ---- a mount, by what it saw

  -- what is lost of what was seen is lost of what was there: what was not seen is dead
  seen_lost : (seen : List Cell) (version : Version) → AreSeen shape old seen new → LosesOneAtMost shape seen new version → LosesOneAtMost shape old new version
  seen_lost seen version sees lost = record {
    dds = record {
      at = lost.dds.at;
      others = λ v area copy other lives. lost.dds.others v area (record {
        is_area = copy.is_area;
        holds = there IsDdsText (dds_block shape area) v lives copy.holds;
      }) other lives;
    };
    sdl = record {
      at = lost.sdl.at;
      others = λ v area same copy other lives. lost.sdl.others v area same (record {
        is_area = copy.is_area;
        is_area' = copy.is_area';
        holds = there IsSdlText (sdl_block shape area) v lives.first copy.holds;
        holds' = λ two. there IsSdlSecond (sdl_second_block shape area) v (lives.second (sym same ∙ two)) (copy.holds' two);
      }) other lives;
    };
  }
    where
      there : {V : Type 0} (text : V → List ℕ → Type 0) (block : ℕ) (v : V) → ¬ (cell_at new block ≡ Dead) → Holds text (cell_at old block) v → Holds text (cell_at seen block) v
      there text block v alive held = elim (sees block) [
        | inl same ↦ subst (λ (c : Cell). Holds text c v) (sym same) held
        | inr both ↦ absurd (alive both.1)
      ]

module _ (shape : Shape) (old new : List Cell) (version : Version) (one : HaveOneVersion shape old version) (stops : StopsMounting shape old new) where
  of_version : (lists : Lists) → AreChosen shape stops.seen lists → lists.sdl.version ≡ version
  of_version lists chosen = one lists.sdl chosen.sdl_area (parts_were_there shape old stops.seen (die_of_seen shape old stops.seen new stops.are_seen) lists.sdl chosen.sdl_area chosen.sdl_area chosen.sdl_chosen.copy)

  mends_lost : MendsChosen shape stops.seen new → LosesOneAtMost shape stops.seen new version
  mends_lost (inl loses) = died_lost shape stops.seen new version (die_of_loses shape stops.seen new loses)
  mends_lost (inr (inl (dds, area, one))) = record { dds = dds_lost shape stops.seen new dds one.mends.left; sdl = sdl_died shape stops.seen new version one.dies }
  mends_lost (inr (inr (lists, both))) = record {
    dds = dds_lost shape stops.seen new lists.dds both.mends.dds.left;
    sdl = subst (LosesOneSdl shape stops.seen new) (of_version lists both.chosen) (sdl_lost shape stops.seen new lists.sdl both.mends.sdl.left);
  }

  pub mount_lost : LosesOneAtMost shape old new version
  mount_lost = seen_lost shape old new stops.seen version stops.are_seen (mends_lost stops.mends)

-- ---- of two copies one is left

module _ (shape : Shape) (old new : List Cell) where
  pub dds_left : (v w : Dds) (a b : ℕ) → LosesOneDds shape old new → a ≢ b → HasDdsCopy shape old v a → DdsLives shape new a → HasDdsCopy shape old w b → DdsLives shape new b
      → (now : Dds) × (area : ℕ) × HasDdsCopy shape new now area
  dds_left v w a b lost differ one lives two lives' = elim (cases_eq a lost.at) [
    | inl at ↦ let is = lost.others w b two (λ same. differ (at ∙ sym same)) lives' in (is.0, b, is.1)
    | inr other ↦ let is = lost.others v a one other lives in (is.0, a, is.1)
  ]

  pub sdl_left : (version : Version) (v w : Sdl) (a b : ℕ) → LosesOneSdl shape old new version → a ≢ b → v.version ≡ version → w.version ≡ version
      → HasSdlCopy shape old v a → SdlLives shape new version a → HasSdlCopy shape old w b → SdlLives shape new version b
      → (now : Sdl) × (area : ℕ) × HasSdlCopy shape new now area
  sdl_left version v w a b lost differ same same' one lives two lives' = elim (cases_eq a lost.at) [
    | inl at ↦ let is = lost.others w b same' two (λ s. differ (at ∙ sym s)) lives' in (is.0, b, is.1)
    | inr other ↦ let is = lost.others v a same one other lives in (is.0, a, is.1)
  ]
