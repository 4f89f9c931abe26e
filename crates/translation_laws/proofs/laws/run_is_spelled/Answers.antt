use Rattle.meaning.specs.Run.{run, run_of_first}
use Rattle.dict.specs.Dictionary.{written}
use Rattle.translation_laws.proofs.laws.run_is_spelled.Goals as goal

pub returns : goal.returns
returns c = record {
  whole = λ text bytes block d tag spells split.
      let before = c.spelled_is_well_formed.ensures.formed text d spells in
      let after = c.block_keeps_well_formed.ensures.whole bytes block d split before in
      record {
        spelled = c.spells_again.ensures.spelled (run written block d).0 tag after;
        apart = λ free. c.spells_again.ensures.apart (run written block d).0 tag after (c.tag_stays_free.ensures.whole bytes block d tag split before free);
      };
  first = λ text bytes block n d tag spells split.
      let before = c.spelled_is_well_formed.ensures.formed text d spells in
      let after = c.block_keeps_well_formed.ensures.first bytes block n d split before in
      record {
        spelled = c.spells_again.ensures.spelled (run_of_first written n block d).0 tag after;
        apart = λ free. c.spells_again.ensures.apart (run_of_first written n block d).0 tag after (c.tag_stays_free.ensures.first bytes block n d tag split before free);
      };
}
