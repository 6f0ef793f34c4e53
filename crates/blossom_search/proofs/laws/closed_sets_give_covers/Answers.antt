use Rattle.blossom_search.proofs.Closings.{closed_cover, closed_size}
use Rattle.blossom_search.proofs.laws.closed_sets_give_covers.Goals as goal

pub returns : goal.returns
returns c = λ net edges even odd labels valid m closed a. (closed_cover net edges even odd labels valid closed a, closed_size net edges even odd labels valid m closed a)
