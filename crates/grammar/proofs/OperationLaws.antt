-- Operations: what is read is in the grammar, and what is in it is read.
use Rattle.std.proofs.Common.{◌≡◌, ℕ, ◌<◌, true, false, List, [], ◌∷◌, length, Option, Some, None, refl, ◌∙◌, arith}
use Rattle.std.specs.Prelude.{codes}
use Rattle.std.specs.Option.{option_map_or}
use Rattle.iris.specs.Bracketed.{◌>>=◌}
use Rattle.lexer.specs.declared.token.Token.{Token}
use Rattle.syntax_trees.specs.Groups.{Part}
use Rattle.syntax_trees.specs.declared.tree.Name.{Name}
use Rattle.syntax_trees.specs.declared.tree.Block.{Block}
use Rattle.algebra.specs.declared.update.Transfer.{Transfer}
use Rattle.algebra.specs.declared.update.Transfer.TheVariants as transfer
use Rattle.syntax_trees.specs.declared.tree.Operation.{Operation}
use Rattle.syntax_trees.specs.declared.tree.Operation.TheVariants as operation
use Rattle.productions.specs.Steps.{Found, Takes, Again}
use Rattle.productions.specs.Keywords.{is_keyword, keyword_at, ReadsKeyword}
use Rattle.productions.proofs.KeywordLaws.{keyword_again, keyword_takes, reads_no_other}
use Rattle.grammar.specs.Reads.{ReadsTransfer, ReadsWith, ReadsChange, ReadsOperation, most_nested}
use Rattle.grammar.specs.Reads as reads
use Rattle.grammar.specs.Reading.{create_at, drop_at, clear_at, transfer_at, inserted_at, deleted_at, with_at, update_at, transferred_at, operation_at}
use Rattle.grammar.proofs.Words.{by_word, behind_word}
use Rattle.grammar.specs.Below.{Below}
use Rattle.grammar.proofs.GraphLaws.{create_found, drop_found, clear_found, transfer_found, create_again, drop_again, clear_again, transfer_again, create_takes, aim_takes, transfer_takes}
use Rattle.grammar.proofs.ChangeLaws.{ReadsWhere, group, also, alone, inserted_found, deleted_found, with_found, data_inserted, data_deleted, where_deleted, inserted_again, deleted_again, with_again, data_takes, where_takes, change_takes, with_keeps}

transfer_word_takes : {ts rest : List Token} {how : Transfer} → ReadsTransfer ts how rest → length rest < length ts
transfer_word_takes (reads.copy word) = keyword_takes word
transfer_word_takes (reads.move word) = keyword_takes word
transfer_word_takes (reads.add word) = keyword_takes word

transfer_no_prefix : {ts rest : List Token} {how : Transfer} → ReadsTransfer ts how rest → keyword_at (codes "PREFIX") ts ≡ None
transfer_no_prefix (reads.copy word) = reads_no_other (codes "PREFIX") word refl
transfer_no_prefix (reads.move word) = reads_no_other (codes "PREFIX") word refl
transfer_no_prefix (reads.add word) = reads_no_other (codes "PREFIX") word refl

change_no_prefix : {ts rest : List Token} {xs ys : List Block} → ReadsChange ts xs ys rest → keyword_at (codes "PREFIX") ts ≡ None
change_no_prefix (reads.delete word is) = reads_no_other (codes "PREFIX") word refl
change_no_prefix (reads.insert word is) = reads_no_other (codes "PREFIX") word refl
change_no_prefix (reads.both word is insert more) = reads_no_other (codes "PREFIX") word refl

pub no_prefix : {ts rest : List Token} {x : Operation} → ReadsOperation ts x rest → keyword_at (codes "PREFIX") ts ≡ None
no_prefix (reads.create word said g) = reads_no_other (codes "PREFIX") word refl
no_prefix (reads.drop word said t) = reads_no_other (codes "PREFIX") word refl
no_prefix (reads.clear word said t) = reads_no_other (codes "PREFIX") word refl
no_prefix (reads.transferred word said from between to) = transfer_no_prefix word
no_prefix (reads.insert_data word data_word is) = reads_no_other (codes "PREFIX") word refl
no_prefix (reads.delete_data word data_word is) = reads_no_other (codes "PREFIX") word refl
no_prefix (reads.delete_where word where_word is) = reads_no_other (codes "PREFIX") word refl
no_prefix (reads.modify (reads.with word named) change where_word is) = reads_no_other (codes "PREFIX") word refl
no_prefix (reads.modify reads.without change where_word is) = change_no_prefix change

-- which word leads where
to_transfer : {k : List ℕ} {ts r : List Token} → ReadsKeyword k ts r → is_keyword k (codes "CREATE") ≡ false → is_keyword k (codes "DROP") ≡ false → is_keyword k (codes "CLEAR") ≡ false
    → operation_at ts ≡ transferred_at ts
unfolding operation_at
to_transfer word a b c = rw (reads_no_other (codes "CREATE") word a, reads_no_other (codes "DROP") word b, reads_no_other (codes "CLEAR") word c) refl

to_update : {k : List ℕ} {ts r : List Token} → ReadsKeyword k ts r → is_keyword k (codes "COPY") ≡ false → is_keyword k (codes "MOVE") ≡ false → is_keyword k (codes "ADD") ≡ false
    → transferred_at ts ≡ update_at ts
unfolding transferred_at
to_update word a b c = rw (reads_no_other (codes "COPY") word a, reads_no_other (codes "MOVE") word b, reads_no_other (codes "ADD") word c) refl

to_insert : {ts r : List Token} → ReadsKeyword (codes "INSERT") ts r → operation_at ts ≡ inserted_at r
unfolding update_at
to_insert word = to_transfer word refl refl refl ∙ to_update word refl refl refl ∙ (rw (keyword_again word) refl)

to_delete : {ts r : List Token} → ReadsKeyword (codes "DELETE") ts r → operation_at ts ≡ deleted_at r
unfolding update_at
to_delete word = to_transfer word refl refl refl ∙ to_update word refl refl refl ∙ (rw (reads_no_other (codes "INSERT") word refl, keyword_again word) refl)

to_with : {ts r : List Token} → ReadsKeyword (codes "WITH") ts r → operation_at ts ≡ with_at r
unfolding update_at
to_with word = to_transfer word refl refl refl ∙ to_update word refl refl refl
    ∙ (rw (reads_no_other (codes "INSERT") word refl, reads_no_other (codes "DELETE") word refl, keyword_again word) refl)

to_how : {ts r : List Token} {how : Transfer} → ReadsTransfer ts how r → operation_at ts ≡ transfer_at how r
unfolding transferred_at
to_how (reads.copy word) = to_transfer word refl refl refl ∙ (rw (keyword_again word) refl)
to_how (reads.move word) = to_transfer word refl refl refl ∙ (rw (reads_no_other (codes "COPY") word refl, keyword_again word) refl)
to_how (reads.add word) = to_transfer word refl refl refl ∙ (rw (reads_no_other (codes "COPY") word refl, reads_no_other (codes "MOVE") word refl, keyword_again word) refl)

module _ (below : Below) where
  update_found : Found update_at ReadsOperation
  unfolding update_at
  update_found ts x e =
      by_word ReadsOperation (codes "INSERT") ts inserted_at _ x e (λ r word e. inserted_found below ts r x word e) (λ e.
      by_word ReadsOperation (codes "DELETE") ts deleted_at _ x e (λ r word e. deleted_found below ts r x word e) (λ e.
      behind_word ReadsOperation (codes "WITH") ts with_at x e (λ r word e. with_found below ts r x word e)))

  transferred_found : Found transferred_at ReadsOperation
  unfolding transferred_at
  transferred_found ts x e =
      by_word ReadsOperation (codes "COPY") ts (transfer_at transfer.Copy) _ x e (λ r word e. transfer_found transfer.Copy ts r x (reads.copy word) e) (λ e.
      by_word ReadsOperation (codes "MOVE") ts (transfer_at transfer.Move) _ x e (λ r word e. transfer_found transfer.Move ts r x (reads.move word) e) (λ e.
      by_word ReadsOperation (codes "ADD") ts (transfer_at transfer.Add) _ x e (λ r word e. transfer_found transfer.Add ts r x (reads.add word) e) (λ e.
      update_found ts x e)))

  pub operation_found : Found operation_at ReadsOperation
  unfolding operation_at
  operation_found ts x e =
      by_word ReadsOperation (codes "CREATE") ts create_at _ x e (λ r word e. create_found ts r x word e) (λ e.
      by_word ReadsOperation (codes "DROP") ts drop_at _ x e (λ r word e. drop_found ts r x word e) (λ e.
      by_word ReadsOperation (codes "CLEAR") ts clear_at _ x e (λ r word e. clear_found ts r x word e) (λ e.
      transferred_found ts x e)))

  change_again : {ts r rest : List Token} {xs ys : List Block} {ps : List Part} → ReadsChange ts xs ys r → ReadsWhere r ps rest → operation_at ts ≡ Some (operation.Modify None xs ys ps, rest)
  change_again (reads.delete word is) after = to_delete word ∙ deleted_again below is alone after
  change_again (reads.insert word is) after = to_insert word ∙ inserted_again below is after
  change_again (reads.both word is insert more) after = to_delete word ∙ deleted_again below is (also insert more) after

  pub operation_again : Again operation_at ReadsOperation
  unfolding operation_at
  operation_again _ _ _ (reads.create word said g) = rw (keyword_again word) (create_again said g)
  operation_again _ _ _ (reads.drop word said t) = rw (reads_no_other (codes "CREATE") word refl, keyword_again word) (drop_again said t)
  operation_again _ _ _ (reads.clear word said t) = rw (reads_no_other (codes "CREATE") word refl, reads_no_other (codes "DROP") word refl, keyword_again word) (clear_again said t)
  operation_again _ _ _ (reads.transferred {how = how} word said from between to) = to_how word ∙ transfer_again how said from between to
  operation_again _ _ _ (reads.insert_data word data_word is) = to_insert word ∙ data_inserted below data_word is
  operation_again _ _ _ (reads.delete_data word data_word is) = to_delete word ∙ data_deleted below data_word is
  operation_again _ _ _ (reads.delete_where word where_word is) = to_delete word ∙ where_deleted below where_word is
  operation_again _ _ _ (reads.modify (reads.with word named) change where_word is) = to_with word ∙ with_again below named change (group where_word is)
  operation_again _ _ _ (reads.modify reads.without change where_word is) = change_again change (group where_word is)

  pub operation_takes : Takes ReadsOperation
  operation_takes _ _ _ (reads.create word said g) =
      let a = keyword_takes word in
      let c = create_takes said g in
      omega arith
  operation_takes _ _ _ (reads.drop word said t) =
      let a = keyword_takes word in
      let c = aim_takes said t in
      omega arith
  operation_takes _ _ _ (reads.clear word said t) =
      let a = keyword_takes word in
      let c = aim_takes said t in
      omega arith
  operation_takes _ _ _ (reads.transferred word said from between to) =
      let a = transfer_word_takes word in
      let c = transfer_takes said from between to in
      omega arith
  operation_takes _ _ _ (reads.insert_data word data_word is) =
      let a = keyword_takes word in
      let c = data_takes below data_word is in
      omega arith
  operation_takes _ _ _ (reads.delete_data word data_word is) =
      let a = keyword_takes word in
      let c = data_takes below data_word is in
      omega arith
  operation_takes _ _ _ (reads.delete_where word where_word is) =
      let a = keyword_takes word in
      let c = data_takes below where_word is in
      omega arith
  operation_takes _ _ _ (reads.modify in_graph change where_word is) =
      let a = with_keeps in_graph in
      let c = change_takes below change in
      let d = where_takes below _ _ where_word is in
      omega arith

  pub no_tokens : {x : Operation} {rest : List Token} → ReadsOperation [] x rest → ⊥
  no_tokens {x} {rest} is = let taken = operation_takes [] x rest is in absurd (omega arith)
