-- `read_place` meets its contract: what it reads, back from its bits, stands at the place.
use Rattle.std.proofs.Common.{rules, ℕ, ◌-◌, List, ℤ, pos, get_or, to_z, of_z, w32}
use Rattle.reading.proofs.AtPlace.{read-of}
use Rattle.reading.proofs.read_place.Goals as goal

abbrev read : List ℤ → ℕ → ℤ
read xs place = to_z w32 (of_z w32 (get_or xs (place - 1) (pos 0)))

pub returns-in-Ok : goal.returns-in-Ok
returns-in-Ok c =
    let k = c.args in
    let u = read c.newest-string.result.now k.place in
    read-of k.setup k.heights.now k.first.now k.second.now k.turn k.place c.in-Ok.ensures u (read k.heights.now k.place) c.shown.result (search rules) (search rules) c.shown.ensures
