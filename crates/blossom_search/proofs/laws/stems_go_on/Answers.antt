use Rattle.blossom_search.proofs.Growths.{stem_more, stem_end, stem_round}
use Rattle.blossom_search.proofs.laws.stems_go_on.Goals as goal

pub returns-clause-grow : goal.returns-clause-grow
returns-clause-grow c = λ net edges path from to nodes out back odd even m s j k t zy zg. stem_more net edges path from to nodes out back odd even m s j k t zy zg

pub returns-clause-augment : goal.returns-clause-augment
returns-clause-augment c = λ net edges path from to nodes out end m s j f z. stem_end net edges path from to nodes out end m s j f z

pub returns-clause-flower : goal.returns-clause-flower
returns-clause-flower c = λ net edges path from to nodes out base half s l j h e. stem_round net edges path from to nodes out base half s l j h e
