use Rattle.std.proofs.Common.{sym, arith}
use Rattle.ram_cache.proofs.Indices.{rooms_filled, left_removed, apart_left, whole_left}
use Rattle.ram_cache.proofs.pending.PendingBlocks.remove.Goals as goal

pub invariant_of-self : goal.invariant_of-self
invariant_of-self c =
    let items = c.args.self.now.rooms.items in
    let long = sym c.args.self.now.rooms.ok.0 in
    let put = rooms_filled items c.as_mut_slice.result.now c.to_end.new.rooms c.args.k c.args.self.now.count c.requires long c.as_mut_slice.ensures.value c.to_end.ensures in
    record {
      many = c.args.self.now.many;
      few = omega arith;
      apart = apart_left items _ c.args.k c.args.self.now.count c.requires long c.args.self.now.many c.args.self.now.few put c.args.self.now.apart;
      whole = whole_left items _ c.args.k c.args.self.now.count c.requires long c.args.self.now.many c.args.self.now.few put c.args.self.now.whole;
    }

pub returns : goal.returns
returns c =
    let items = c.args.self.now.rooms.items in
    let long = sym c.args.self.now.rooms.ok.0 in
    left_removed items _ c.args.k c.args.self.now.count c.requires long c.args.self.now.many c.args.self.now.few
    (rooms_filled items c.as_mut_slice.result.now c.to_end.new.rooms c.args.k c.args.self.now.count c.requires long c.as_mut_slice.ensures.value c.to_end.ensures)
