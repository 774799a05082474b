-- That the memory of an audit serves it. (This project's own.)
use Rattle.model_geometry.specs.declared.kinds.LayoutKind.TheVariants.{OneGroup, EachZone}
use Rattle.ram_groups.specs.Layouts.{IsOfKind}
use Rattle.ram_audit.specs.declared.rooms.AuditRooms.{AuditRooms}

-- there is a layout of each kind
pub record AreReadyToAudit (rooms : AuditRooms) : Type 0 where
  pub one : IsOfKind OneGroup rooms.slip
  pub each : IsOfKind EachZone rooms.zones
