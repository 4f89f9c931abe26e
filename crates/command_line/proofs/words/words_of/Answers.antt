use Rattle.command_line.proofs.JobLaws.{match_named, match_unnamed}
use Rattle.command_line.specs.declared.words.Mistake.TheVariants.{NoCommand}
use Rattle.command_line.proofs.words.words_of.Goals as goal

pub returns-in-Some : goal.returns-in-Some
returns-in-Some c =
    match_named c.args.matches.now _ _ c.command_words.result c.in-Some.ensures.name c.in-Some.ensures.rows c.command_words.ensures

pub returns-in-None : goal.returns-in-None
returns-in-None c = match_unnamed c.args.matches.now NoCommand c.in-None.ensures.rows
