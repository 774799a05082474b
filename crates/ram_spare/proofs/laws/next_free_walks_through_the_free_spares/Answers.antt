use Rattle.ram_spare.proofs.Order.{free_follows_at, next_is, may_ask}
use Rattle.ram_spare.proofs.laws.next_free_walks_through_the_free_spares.Goals as goal

pub returns : goal.returns
returns c = record {
  follows = λ pools entries pool lawful k within. free_follows_at pools entries pool lawful k within;
  walks = λ pools entries pool lawful k within. next_is pools entries pool lawful k within;
  asked = λ pools entries pool k. may_ask pools entries pool k;
}
