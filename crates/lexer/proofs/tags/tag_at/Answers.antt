use Rattle.std.proofs.Common.{sym}
use Rattle.lexer.proofs.TagLaws.{tag_made}
use Rattle.lexer.proofs.tags.tag_at.Goals as goal

pub new-requires : goal.new-requires
new-requires c = tag_made _ _ c.in-len1-up.len_at_least (sym c.if-is_ascii_alphabetic.ensures.value) c.cut_tag.ensures.front
