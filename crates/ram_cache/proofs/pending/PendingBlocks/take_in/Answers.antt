use Rattle.std.proofs.Common.{◌≡◌, map, take, length, refl, ap, ◌∙◌, arith, length-take}
use Rattle.std.proofs.lemmas.List.{length-map}
use Rattle.model_cache.specs.Causes.{put_over}
use Rattle.ram_cache.specs.Rooms.{pending_of, staged_of}
use Rattle.ram_cache.proofs.Numbers.{covered_more, covered_all, all_taken, apart_taken, whole_taken}
use Rattle.ram_cache.proofs.pending.PendingBlocks.take_in.Goals as goal

pub loop-k-preserved : goal.loop-k-preserved
loop-k-preserved c = record {
  covered = covered_more (put_over c.args.request.lba c.args.request.n c.args.from.now) (pending_of c.args.self.now) (pending_of c.loop-k.self) (pending_of c.cover.new.self) c.loop-k.k
      (omega (arith, c.len-k-end.ensures, c.loop-k-test.true)) c.loop-k.invariant.covered c.cover.ensures.pending;
  rest = λ staged. c.cover.ensures.rest staged ∙ c.loop-k.invariant.rest staged;
}

pub invariant_of-self : goal.invariant_of-self
invariant_of-self c =
    let f = put_over c.args.request.lba c.args.request.n c.args.from.now in
    let p = pending_of c.args.self.now in
    let items = c.loop-k.self.rooms.items in
    let count = c.loop-k.self.count in
    let front : take count items ≡ map f p = covered_all f p (take count items) c.loop-k.k (omega (arith, c.len-k-end.ensures, c.loop-k-test.false)) c.loop-k.invariant.covered in
    let long = c.loop-k.self.rooms.ok.0 in
    let all = c.loop-k.self.many in
    let less = c.loop-k.self.few in
    let room = c.requires.room in
    record {
      many = c.loop-k.self.many;
      few = omega (arith, ap length front, length-map p f, length-take count items, long, all, less, room);
      apart = apart_taken f (λ x. refl) p items (staged_of c.args.self.now c.args.staged) count c.args.staged front (c.loop-k.invariant.rest c.args.staged) c.requires.apart;
      whole = whole_taken f (λ x. refl) p items (staged_of c.args.self.now c.args.staged) count c.args.staged front (c.loop-k.invariant.rest c.args.staged) c.loop-k.self.whole c.requires.long;
    }

pub returns : goal.returns
returns c =
    let f = put_over c.args.request.lba c.args.request.n c.args.from.now in
    let p = pending_of c.args.self.now in
    let items = c.loop-k.self.rooms.items in
    let count = c.loop-k.self.count in
    let front : take count items ≡ map f p = covered_all f p (take count items) c.loop-k.k (omega (arith, c.len-k-end.ensures, c.loop-k-test.false)) c.loop-k.invariant.covered in
    all_taken f (λ x. refl) p items (staged_of c.args.self.now c.args.staged) count c.args.staged front (c.loop-k.invariant.rest c.args.staged)
