-- A set of members rises strictly and has just these, and is the one list that does.
use Rattle.std.proofs.Common.{◌≡◌, true, List, sym, ◌∙◌}
use Rattle.std.specs.Prelude.{◌↔◌}
use Rattle.std.specs.List.{Contains}
use Rattle.std.specs.declared.cmp.Ordering.{Ordering}
use Rattle.sets.specs.Sets.{set_of}
use Rattle.sets.proofs.SetLaws.{sorted-set_of, has-set_of, Contains-from_has, has-from_Contains, has_alike, same_set}
use Rattle.meaning_laws.specs.Members.{TellsApart, IsSetOf, SetsHaveMembers, MembersMakeSets}

pub sets_have_members : {A : Type 0} → SetsHaveMembers A
sets_have_members R xs o = record {
  rises = sorted-set_of o.total xs;
  has = λ x. (
    λ c. Contains-from_has o.total o.exact xs x (sym (has-set_of o.total x xs) ∙ has-from_Contains o.total o.exact (set_of R xs) x c),
    λ c. Contains-from_has o.total o.exact (set_of R xs) x (has-set_of o.total x xs ∙ has-from_Contains o.total o.exact xs x c),
  );
}

pub members_make_sets : {A : Type 0} → MembersMakeSets A
members_make_sets R xs ys members o s t =
    same_set o.total o.exact xs ys s.rises t.rises
    (has_alike o.total o.exact xs ys (λ x c. let a = s.has x in let b = t.has x in b.1 (a.0 c)) (λ x c. let a = s.has x in let b = t.has x in a.1 (b.0 c)))
