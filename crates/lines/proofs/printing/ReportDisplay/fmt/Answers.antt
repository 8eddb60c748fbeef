use Rattle.std.proofs.Common.{[], ◌∷◌, ◌++◌, refl}
use Rattle.lines.specs.Printed.{line_text, lines_text}
use Rattle.lines.specs.declared.line.Line.{Line}
use Rattle.lines.proofs.Pieces.{lines_flat, piece_put}
use Rattle.lines.proofs.printing.ReportDisplay.fmt.Goals as goal

pub loop-line-preserved : goal.loop-line-preserved
loop-line-preserved g c plain =
    piece_put g.W.Write.write_str_gives lines_text (λ (l : Line). line_text l ++ (10 ∷ [])) lines_flat _ _ _ c.args.self.now.lines.now c.loop-line.line-index _ c.loop-line-test.true
    (c.loop-line.invariant plain) (c.in_ok-writeln-2.ensures.writes (c.loop-line.invariant plain).plain refl)
