use Rattle.ca_flow.proofs.CauseLemmas.{matrix_asked}
use Rattle.ca_flow.proofs.top.matrix_work.Goals as goal

pub returns-clause-asked : goal.returns-clause-asked
returns-clause-asked g c = λ words spelled.
    matrix_asked words c.args.request.now (g.S.Store.files c.args.store.now) c.in_ok-matrix.matrix spelled
    (c.in_ok-matrix.ensures).matrix
