use Rattle.std.proofs.Common.{◌≡◌, ◌⊎◌, ◌≤◌, ◌-◌, length, vec_len}
use Rattle.ghg_http.specs.Receive.{Grows, IsFilled}
use Rattle.ghg_http.proofs.request.fill.Given as goal

abbrev pub invariant-loop-link : goal.invariant-loop-link
invariant-loop-link g l =
    Grows (g.T.Told.tape l.fn.link) (g.T.Told.tape l.link) l.fn.body.items l.body.items
    × IsFilled l.fn.body.items l.body.items l.size
    × ((l.body.items ≡ l.fn.body.items) ⊎ (length l.body.items ≤ l.size))
    × ((g.T.Told.tape l.link).faults ≡ (g.T.Told.tape l.fn.link).faults)

abbrev pub decreases-loop-link : goal.decreases-loop-link
decreases-loop-link g l = l.size - vec_len l.body
