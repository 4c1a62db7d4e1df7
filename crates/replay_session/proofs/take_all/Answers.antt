use Rattle.replay_session.proofs.Reaching.{reached_part, reached_then, on_err}
use Rattle.replay_session.proofs.take_all.Goals as goal

pub returns-in_err-good-clause-err : goal.returns-in_err-good-clause-err
returns-in_err-good-clause-err g c =
    on_err c.from_residual-in_err-good.result (reached_then c.loop.invariant.went (reached_part c.in_err-good.ensures.err))
