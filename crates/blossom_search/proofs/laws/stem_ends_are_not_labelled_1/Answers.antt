use Rattle.blossom_search.proofs.Centrals.{central}
use Rattle.blossom_search.proofs.laws.stem_ends_are_not_labelled_1.Goals as goal

pub returns : goal.returns
returns c = λ net edges labels path from to nodes valid m cover size stem l. central net edges labels path from to nodes valid m cover size stem l
