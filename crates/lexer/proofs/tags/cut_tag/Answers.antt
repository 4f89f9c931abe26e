use Rattle.std.proofs.Common.{◌∙◌, ap, false}
use Rattle.std.specs.List.{list_all}
use Rattle.lexer.specs.Names.{is_name_byte}
use Rattle.lexer.proofs.TagLaws.{cut_front, cut_rest, tag_names}
use Rattle.lexer.proofs.tags.cut_tag.Goals as goal

pub names_text-requires : goal.names_text-requires
names_text-requires c = ap (list_all is_name_byte) (c.split_at.ensures.front ∙ cut_front _ _ c.tag_end.ensures.rest) ∙ tag_names false c.args.text.now

pub returns-clause-front : goal.returns-clause-front
returns-clause-front c = c.names_text.ensures ∙ c.split_at.ensures.front ∙ cut_front _ _ c.tag_end.ensures.rest

pub returns-clause-rest : goal.returns-clause-rest
returns-clause-rest c = c.split_at.ensures.back ∙ cut_rest _ _ c.tag_end.ensures.rest
