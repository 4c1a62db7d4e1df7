use Rattle.std.proofs.Common.{◌≡◌, ◌<◌, ◌-◌, ℕ, List, length, get_or, set}
use Rattle.std.proofs.lemmas.List.{get_or_default}
use Rattle.lighting_outputs.specs.declared.Output.{Output}
use Rattle.lighting_outputs.specs.Paper.Fresh.{fresh_output}
use Rattle.lighting_outputs.specs.Engine.Advance.{advance}
use Rattle.lighting_outputs.proofs.Time.Quiet.{advance_later, stretch_moving, stretch_resting}
use Rattle.panel_tables.proofs.advance_output.Goals as goal

-- the record that was read stands in its place, whatever stands for one past the end of the table
put_back : (f : Output → Output) (xs : List Output) (i : ℕ) (d n : Output) → i < length xs → n ≡ f (get_or xs i d)
    → set xs i n ≡ set xs i (f (get_or xs i fresh_output))
put_back f xs i d n h e = rw (e, get_or_default xs i d fresh_output h)

pub returns-then-is_later : goal.returns-then-is_later
returns-then-is_later c =
    let a = c.args in
    put_back (advance a.from a.to) a.outputs.now a.i _ _ c.requires
    (advance_later a.from a.to _ _ c.move_on.result c.is_later.result c.is_later.ensures c.if-is_later.true
    (stretch_moving a.from (a.to - a.from) _ c.is_moving.result c.is_moving.ensures c.if-is_moving.true)
    c.move_on.ensures)

pub returns-then-is_later-2 : goal.returns-then-is_later-2
returns-then-is_later-2 c =
    let a = c.args in
    put_back (advance a.from a.to) a.outputs.now a.i _ _ c.requires
    (advance_later a.from a.to _ _ c.rest.result c.is_later-else-is_moving.result c.is_later-else-is_moving.ensures c.if-is_later-2.true
    (stretch_resting a.from (a.to - a.from) _ c.is_moving.result c.is_moving.ensures c.if-is_moving.false)
    c.rest.ensures)
