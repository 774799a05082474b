-- A valid secondary list is of the grammar where its counters are.
use Rattle.std.specs.Prelude.{ℕ, ◌<◌, ◌^◌, Option, Some, None}
use Rattle.std.specs.List.{Contains}
use Rattle.std.proofs.lemmas.List.Elements.{Contains-append_right}
use Rattle.model_geometry.specs.Geometry.{Shape, IsLawful}
use Rattle.model_lists.specs.Values.{IsBlockNumber, HasNumbers, IsLawfulSdl}
use Rattle.model_pools.specs.Pools.{all_in, logical_in, spares_in}
use Rattle.model_pools.proofs.Members.{ByMembers, all_from, by_members}
use Rattle.model_places.specs.Places.{Lists, pools_under}
use Rattle.model_places.specs.Valid.{AreValid}
use Rattle.model_places.proofs.ByKind.{area_most}
use Rattle.model_places.proofs.Entries.{length-entries_most}
use Rattle.model_places.proofs.Layouts.{pooled_is_data}
use Rattle.ram_replace.proofs.Under.{data_number}

module _ (shape : Shape) (lawful : IsLawful shape) (lists : Lists) (valid : AreValid shape lists) where
  pooled_number : (b : ℕ) → Contains (all_in (pools_under shape lists)) b → IsBlockNumber b
  pooled_number b has = data_number shape lawful b (pooled_is_data shape lists.dds lists.sdl.ssa b has)

  members : ByMembers (pools_under shape lists) lists.sdl.entries
  members = by_members (pools_under shape lists) lists.sdl.entries valid.together.secondary.entries

  numbers : (d : ℕ) (o : Option ℕ) → Contains lists.sdl.entries (record { defective = d; replacement = o }) → HasNumbers (record { defective = d; replacement = o })
  numbers d None has = record { defective_fits = pooled_number d (members.within (record { defective = d; replacement = None }) has); replacement_fits = tt }
  numbers d (Some r) has = record {
    defective_fits = pooled_number d (members.within (record { defective = d; replacement = Some r }) has);
    replacement_fits = pooled_number r (Contains-append_right (logical_in (pools_under shape lists)) (spares_in (pools_under shape lists)) r (members.from d r has));
  }

  pub valid_lawful : lists.sdl.counter < 2 ^ 32 → lists.sdl.dds_counter < 2 ^ 32 → IsLawfulSdl lists.sdl
  valid_lawful counted dds_counted = record {
    counted = counted;
    dds_counted = dds_counted;
    limits = record {
      most = area_most shape lists.sdl.ssa valid.together.secondary.area;
      few = length-entries_most shape lists valid.primary valid.together.secondary;
    };
    list = record { rise = valid.together.secondary.entries.rising; numbers = all_from HasNumbers lists.sdl.entries (λ e has. numbers e.defective e.replacement has) };
  }
