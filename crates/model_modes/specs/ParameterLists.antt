-- What MODE SELECT(10) takes: for taking the list, and for saying what the command does.
use Rattle.std.specs.Prelude.{Bool, ◌==◌, ◌&&◌, not, if◌then◌else◌, ◌≡◌, ℕ, zero, suc, ◌+◌, ◌-◌, ◌*◌, ◌/◌, ◌%◌, ◌<◌, ◌⊎◌, List, [], ◌∷◌, length, take, drop, slice_index}
use Rattle.model_modes.specs.declared.Page.{Page}
use Rattle.model_modes.specs.declared.Page.TheVariants.{Caching}
use Rattle.model_modes.specs.Pages.{code, current_page}

-- These bytes are a page with values that it may have: all of them are in force, but for WCE, which the host may set and
-- clear, and for bit 7 of the first byte. That bit tells of a page whether it can be saved, and is reserved in a list.
-- (After INCITS SPC; that no other value may be changed is this project's own.)
pub record IsCurrentPage (bytes : List ℕ) : Type 0 where
  pub page : Page
  pub caches : Bool
  pub has_code : slice_index bytes 0 % 128 ≡ code page
  pub has_values : drop 1 bytes ≡ drop 1 (current_page caches page)

-- the page with this number, from 0 on, behind the header
abbrev pub page_at : List ℕ → ℕ → List ℕ
page_at bytes k = take 12 (drop (8 + 12 * k) bytes)

-- A header of eight bytes, whose last two say that no block descriptors follow, and then whole pages of 12 bytes, each
-- with values that it may have. The other bytes of the header are not looked at. (After INCITS SPC.)
pub record HasCurrentPages (bytes : List ℕ) : Type 0 where
  pub count : ℕ
  pub whole : length bytes ≡ 8 + 12 * count
  pub no_descriptors : take 2 (drop 6 bytes) ≡ 0 ∷ 0 ∷ []
  pub each : (k : ℕ) → k < count → IsCurrentPage (page_at bytes k)

-- n bytes are no list of mode pages: none, or a header of 8 bytes and up to two pages of 12 (after INCITS SPC)
abbrev pub is_no_list_length : ℕ → Bool
is_no_list_length bytes = not (bytes == 0) && not (bytes == 8) && not (bytes == 20) && not (bytes == 32)

-- A parameter list that is taken: none at all, or one that changes WCE at most. (This project's own.)
abbrev pub IsTakenList : List ℕ → Type 0
IsTakenList bytes = (bytes ≡ []) ⊎ HasCurrentPages bytes

-- the page is a caching page
abbrev pub is_caching : List ℕ → Bool
is_caching page = slice_index page 0 % 128 == code Caching

-- Whether the write cache is on after the first n pages of a list that is taken, where it was on or off before: as the
-- last caching page among them says by WCE, the only bit that its byte 2 may have.
abbrev pub cached_by : (list : List ℕ) (was : Bool) (pages : ℕ) → Bool
cached_by list was zero = was
cached_by list was (suc k) =
    if is_caching (page_at list k) then slice_index (page_at list k) 2 == 0x04 else cached_by list was k

-- The same after the whole list. One without a caching page leaves the cache as it was. (After INCITS MMC.)
abbrev pub caches_after : (list : List ℕ) → Bool → Bool
caches_after list was = cached_by list was ((length list - 8) / 12)
