-- Both lists as one value, and which spare comes next: for `next_free` and `counts`.
use Rattle.std.specs.Prelude.{ℕ, zero, suc, Option, None, List, slice_get}
use Rattle.model_lists.specs.declared.sdl.SdlEntry.{SdlEntry}
use Rattle.model_pools.specs.Pools.{Pool, free_at}
use Rattle.model_places.specs.Places.{Lists}
use Rattle.ram_dds.specs.declared.dds.DdsPdl.{DdsPdl}
use Rattle.ram_dds.specs.Dds.{dds_of}
use Rattle.ram_sdl.specs.declared.sdl.Sdl.{Sdl}
use Rattle.ram_sdl.specs.Sdl.{sdl_of}

-- both lists as one value (this project's own)
abbrev pub both_lists : DdsPdl → Sdl → Lists
both_lists dds sdl = record { dds = dds_of dds; sdl = sdl_of sdl }

-- the free spare of a pool before the k-th, of which the first has none (this project's own)
abbrev pub spare_before : List Pool → List SdlEntry → (pool : ℕ) → ℕ → Option ℕ
spare_before pools entries pool zero = None
spare_before pools entries pool (suc k) = slice_get (free_at pools entries pool) k
