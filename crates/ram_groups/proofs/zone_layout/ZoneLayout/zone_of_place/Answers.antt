use Rattle.std.proofs.Common.{ℕ, leb, rules, arith}
use Rattle.std.proofs.lemmas.List.Sorted.{IsPartitionPoint-from_clause, IsPartitionedBy-leb}
use Rattle.ram_groups.proofs.Tables.{seen_rising, begun, zone_by, zones_are}
use Rattle.ram_groups.proofs.zone_layout.ZoneLayout.zone_of_place.Goals as goal

pub overflow_cast-result : goal.overflow_cast-result
overflow_cast-result c =
    let found = begun c.self.inside c.args.self.now c.self.view_is c.self.invariant c.deref.result.now c.deref.ensures.value c.args.place c.partition_point.result c.requires c.partition_point.ensures.bound
    (IsPartitionPoint-from_clause (λ (start : ℕ). leb start c.args.place) c.deref.result.now c.partition_point.result c.partition_point.ensures.partitioned (IsPartitionedBy-leb (λ (start : ℕ). start) c.deref.result.now c.args.place (seen_rising c.self.inside c.args.self.now c.self.view_is c.self.invariant c.deref.result.now c.deref.ensures.value)) (λ a r q k. search rules)) in
    let few = found.1 in
    omega (arith, few, c.zones-zones.ensures, zones_are c.self.inside c.args.self.now c.self.view_is c.self.invariant)

pub overflow_sub-result : goal.overflow_sub-result
overflow_sub-result c =
    (begun c.self.inside c.args.self.now c.self.view_is c.self.invariant c.deref.result.now c.deref.ensures.value c.args.place c.partition_point.result c.requires c.partition_point.ensures.bound
    (IsPartitionPoint-from_clause (λ (start : ℕ). leb start c.args.place) c.deref.result.now c.partition_point.result c.partition_point.ensures.partitioned (IsPartitionedBy-leb (λ (start : ℕ). start) c.deref.result.now c.args.place (seen_rising c.self.inside c.args.self.now c.self.view_is c.self.invariant c.deref.result.now c.deref.ensures.value)) (λ a r q k. search rules))).0

pub returns : goal.returns
returns c =
    zone_by c.self.inside c.args.self.now c.self.view_is c.self.invariant c.deref.result.now c.deref.ensures.value c.args.place c.partition_point.result c.requires c.partition_point.ensures.bound
    (IsPartitionPoint-from_clause (λ (start : ℕ). leb start c.args.place) c.deref.result.now c.partition_point.result c.partition_point.ensures.partitioned (IsPartitionedBy-leb (λ (start : ℕ). start) c.deref.result.now c.args.place (seen_rising c.self.inside c.args.self.now c.self.view_is c.self.invariant c.deref.result.now c.deref.ensures.value)) (λ a r q k. search rules))
