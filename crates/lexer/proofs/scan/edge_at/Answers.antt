use Rattle.std.proofs.Common.{sym}
use Rattle.lexer.proofs.EdgeLaws.{edge_made}
use Rattle.lexer.proofs.scan.edge_at.Goals as goal

pub returns-else-begins_with_colon : goal.returns-else-begins_with_colon
returns-else-begins_with_colon c = edge_made c.args.text.now _ c.cut_name.ensures.rest (sym c.if-begins_with_colon.ensures)
