-- Lines of the tests.
use Rattle.br_word.specs.declared.types.Width.TheVariants.{B32}
use Rattle.ssa_form.specs.declared.form.Val.TheVariants as val
use Rattle.ssa_form.specs.declared.form.BinOp.TheVariants.{Add}
use Rattle.ssa_form.specs.declared.form.Line.{Line}
use Rattle.ssa_form.specs.declared.form.Line.TheVariants.{Bin, Store}

-- eax and 1, and the result of line 0 and 1
abbrev pub sum : Line
sum = Bin Add (val.Param 0) (val.Num 1)

abbrev pub after : Line
after = Bin Add (val.Line 0) (val.Num 1)

-- eax at 4096
abbrev pub store : Line
store = Store B32 (val.Num 4096) (val.Param 0)
