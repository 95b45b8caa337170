use Rattle.std.proofs.Common.{drop, ap, ◌∙◌}
use Rattle.line_reader.proofs.Counts.{passed}
use Rattle.line_reader.proofs.reader.LineReader.pass.Goals as goal

pub returns : goal.returns
returns c = passed c.self.inside.piece c.self.inside.start c.args.count c.self.inside.end ∙ ap (drop c.args.count) c.self.view_is
