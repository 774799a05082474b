-- What a capacity is to a disc, by the numbers of the code.
use Rattle.std.specs.Prelude.{◌≡◌, ◌≢◌, ℕ, ◌+◌, ◌-◌, ◌*◌, ◌/◌, ◌%◌, ◌<◌, ◌≤◌, length}
use Rattle.std.proofs.Common.{◌↔◌, Bool, true, false, IsTrue, refl, sym, ◌∙◌, arith}
use Rattle.std.proofs.lemmas.Bool.{true≢false}
use Rattle.model_geometry.specs.declared.kinds.LayoutKind.TheVariants.{OneGroup, EachZone}
use Rattle.model_geometry.specs.Geometry.{Shape, data_blocks, spare_room}
use Rattle.model_lists.specs.Values.{most_of}
use Rattle.model_places.specs.Places.{Lists, capacity_of}
use Rattle.model_places.specs.Valid.{AreValid, AreaGrows}
use Rattle.model_places.proofs.ByKind.{room_grows, slip_area_grows, no_zone_grows}
use Rattle.model_drive.specs.Expands.{ssa_for, IsLawfulSize}
use Rattle.ram_expand.specs.Sizes.{IsSmaller, IsPresent}

-- the size of the area that leaves n sectors
pub area_is : (shape : Shape) (count room capacity : ℕ) → count ≡ length (data_blocks shape) → room ≡ spare_room shape 0 → count - room - capacity / 16 ≡ ssa_for shape capacity
area_is shape count room capacity count_is room_is = omega (arith, count_is, room_is)

-- whether the area may grow
pub slips_grow : (shape : Shape) → shape.layout ≡ OneGroup → IsTrue true ↔ AreaGrows shape
slips_grow shape is = (λ t. slip_area_grows shape is, λ grows. refl)

pub zones_stay : (shape : Shape) → shape.layout ≡ EachZone → IsTrue false ↔ AreaGrows shape
zones_stay shape is = (λ t. absurd (true≢false (sym t)), λ grows. absurd (no_zone_grows shape is grows))

module _ (shape : Shape) (lists : Lists) (valid : AreValid shape lists) (count room : ℕ) (count_is : count ≡ length (data_blocks shape)) (room_is : room ≡ spare_room shape 0) where
  pub area_within : lists.sdl.ssa ≤ count - room
  area_within = (let some = valid.together.secondary.area.some_logical in omega (arith, some, room_grows shape lists.sdl.ssa, count_is, room_is))

  pub present_is : (count - room - lists.sdl.ssa) * 16 ≡ capacity_of shape lists
  present_is = omega (arith, room_grows shape lists.sdl.ssa, count_is, room_is)

  module _ (capacity : ℕ) where
    pub is_present : capacity ≡ (count - room - lists.sdl.ssa) * 16 → IsPresent shape lists capacity
    is_present is =
        let same = present_is in
        let some = valid.together.secondary.area.some_logical in
        let most = valid.together.secondary.area.most in
        let all = room_grows shape lists.sdl.ssa in
        let area : ssa_for shape capacity ≡ lists.sdl.ssa = omega (arith, is, some, all, count_is, room_is) in
        record {
          lawful = record {
            some = omega (arith, is, some, all, count_is, room_is);
            whole = omega (arith, is);
            fewer = omega (arith, is, same);
            grows = λ less. absurd (omega (arith, less, is, same));
            most = omega (arith, most, all, room_grows shape (ssa_for shape capacity), area);
          };
          present = omega (arith, is, same);
        }

    pub too_large : (count - room - lists.sdl.ssa) * 16 < capacity → ¬ IsLawfulSize shape lists.sdl.version (capacity_of shape lists) capacity
    too_large more lawful = (let same = present_is in let fewer = lawful.fewer in omega (arith, more, same, fewer))

    pub none_left : capacity ≡ 0 → ¬ IsLawfulSize shape lists.sdl.version (capacity_of shape lists) capacity
    none_left is lawful = (let some = lawful.some in omega (arith, is, some))

    pub not_whole : capacity % 16 ≢ 0 → ¬ IsLawfulSize shape lists.sdl.version (capacity_of shape lists) capacity
    not_whole is lawful = is lawful.whole

    pub too_many_spares : (area most : ℕ) → area ≡ ssa_for shape capacity → most ≡ most_of lists.sdl.version → most < room + area
        → ¬ IsLawfulSize shape lists.sdl.version (capacity_of shape lists) capacity
    too_many_spares area most area_is most_is more lawful =
        (let within = lawful.most in omega (arith, more, within, area_is, most_is, room_is, room_grows shape (ssa_for shape capacity)))

    pub cannot_grow : (grows : Bool) → (IsTrue grows ↔ AreaGrows shape) → grows ≡ false → capacity ≢ (count - room - lists.sdl.ssa) * 16 → ¬ IsLawfulSize shape lists.sdl.version (capacity_of shape lists) capacity
    cannot_grow grows tells stays apart lawful =
        let same = present_is in
        let fewer = lawful.fewer in
        absurd (true≢false (sym (tells.1 (lawful.grows (omega (arith, fewer, apart, same)))) ∙ stays))

    pub is_smaller : AreaGrows shape → (area most : ℕ) → 0 < capacity → capacity % 16 ≡ 0 → capacity ≤ (count - room - lists.sdl.ssa) * 16 → capacity ≢ (count - room - lists.sdl.ssa) * 16
        → area ≡ ssa_for shape capacity → most ≡ most_of lists.sdl.version → room + area ≤ most → IsSmaller shape lists capacity
    is_smaller grows area most some whole fewer apart area_is most_is within =
        let same = present_is in
        record {
          lawful = record {
            some = some;
            whole = whole;
            fewer = omega (arith, fewer, same);
            grows = λ less. grows;
            most = omega (arith, within, area_is, most_is, room_is, room_grows shape (ssa_for shape capacity));
          };
          smaller = omega (arith, fewer, apart, same);
        }

-- the capacity leaves no more blocks than there are
pub left_within : (shape : Shape) (lists : Lists) → AreValid shape lists → (capacity : ℕ) → IsSmaller shape lists capacity → spare_room shape 0 + capacity / 16 ≤ length (data_blocks shape)
left_within shape lists valid capacity size =
    let fewer = size.lawful.fewer in
    let some = valid.together.secondary.area.some_logical in
    omega (arith, fewer, some, room_grows shape lists.sdl.ssa)
