use Rattle.std.proofs.Common.{subst}
use Rattle.std.specs.Prelude.{List, ℕ, IfOk}
use Rattle.flow_graph.specs.BlockRows.{IsMade}
use Rattle.flow_graph.proofs.RowsShow.{known_transfer, known_other, made_held}
use Rattle.flow_graph.proofs.block_rows.row_of.Goals as goal

pub returns-in-Transfer-clause-row : goal.returns-in-Transfer-clause-row
returns-in-Transfer-clause-row c = made_held c.args.counted.now c.args.targets.now.items c.args.start _ _ c.args.cut c.transfer_row.result c.requires.holds (known_transfer c.args.exe.now c.args.counted.now c.args.start c.args.cut c.requires.block.cut c.in-Transfer.is) c.transfer_row.ensures

pub returns-in_default : goal.returns-in_default
returns-in_default c =
    let P : List ℕ → Type 0 = λ known. IfOk c.next_row.result (IsMade c.next_row.new.targets.items c.args.start known c.args.cut) in
    record {
      gains = c.next_row.ensures.gains;
      row = subst P (known_other c.args.exe.now c.args.counted.now c.args.start c.args.cut c.requires.block.cut c.in_default.not-Transfer) c.next_row.ensures.row;
    }
