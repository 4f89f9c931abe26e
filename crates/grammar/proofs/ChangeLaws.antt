-- Operations on quads: what is read is in the grammar, and what is in it is read.
use Rattle.std.proofs.Common.{◌≡◌, ℕ, ◌<◌, ◌≤◌, true, false, List, [], ◌∷◌, length, Option, Some, None, refl, ap, ◌∙◌, arith}
use Rattle.std.specs.Prelude.{codes}
use Rattle.std.specs.Option.{option_map_or}
use Rattle.iris.specs.Bracketed.{◌>>=◌}
use Rattle.iris.proofs.Options.{bind_some}
use Rattle.lexer.specs.declared.token.Token.{Token}
use Rattle.syntax_trees.specs.Groups.{Part}
use Rattle.syntax_trees.specs.declared.tree.Name.{Name}
use Rattle.syntax_trees.specs.declared.tree.Block.{Block}
use Rattle.syntax_trees.specs.declared.tree.Operation.{Operation}
use Rattle.syntax_trees.specs.declared.tree.Operation.TheVariants as operation
use Rattle.productions.specs.Steps.{Found}
use Rattle.productions.specs.Names.{ReadsName}
use Rattle.productions.specs.Keywords.{keyword_at, ReadsKeyword}
use Rattle.productions.specs.Reading.{name_at}
use Rattle.productions.proofs.KeywordLaws.{keyword_again, keyword_takes, reads_no_other}
use Rattle.productions.proofs.NameLaws.{name_found, name_takes, name_again}
use Rattle.triples.specs.Reads.{ReadsQuads}
use Rattle.triples.specs.Reading.{quads_at}
use Rattle.groups.specs.Reads.{ReadsGroup}
use Rattle.groups.specs.Reading.{group_at}
use Rattle.grammar.specs.Reads.{ReadsWith, ReadsChange, ReadsOperation, most_nested}
use Rattle.grammar.specs.Reads as reads
use Rattle.grammar.specs.Reading.{where_at, also_at, insert_data_at, delete_data_at, delete_where_at, insert_at, delete_at, inserted_at, deleted_at, change_at, with_at}
use Rattle.grammar.proofs.Words.{moved, by_word, behind_word}
use Rattle.grammar.specs.Below.{Below}

-- WHERE and its group
pub data ReadsWhere : List Token → List Part → List Token → Type 0 where
  group : {ts r rest : List Token} {ps : List Part} → ReadsKeyword (codes "WHERE") ts r → ReadsGroup most_nested r ps rest → ReadsWhere ts ps rest

with_where : {ts r u rest : List Token} {with : Option Name} {xs ys : List Block} {ps : List Part} → ReadsWith ts with r → ReadsChange r xs ys u → ReadsWhere u ps rest → ReadsOperation ts (operation.Modify with xs ys ps) rest
with_where in_graph change (group word is) = reads.modify in_graph change word is

-- INSERT after the template of DELETE, or nothing
pub data ReadsAlso : List Token → List Block → List Token → Type 0 where
  also : {ts r rest : List Token} {ys : List Block} → ReadsKeyword (codes "INSERT") ts r → ReadsQuads r ys rest → ReadsAlso ts ys rest
  alone : {ts : List Token} → ReadsAlso ts [] ts

with_also : {ts r u rest : List Token} {xs ys : List Block} → ReadsKeyword (codes "DELETE") ts r → ReadsQuads r xs u → ReadsAlso u ys rest → ReadsChange ts xs ys rest
with_also word xs (also insert ys) = reads.both word xs insert ys
with_also word xs alone = reads.delete word xs

module _ (below : Below) where
  -- ---- what is read is in the grammar

  where_found : Found where_at ReadsWhere
  unfolding where_at
  where_found ts x e = behind_word ReadsWhere (codes "WHERE") ts (group_at most_nested) x e (λ r word e. group word (below.group_found most_nested r x e))

  also_found : Found also_at ReadsAlso
  unfolding also_at
  also_found ts x e =
      by_word ReadsAlso (codes "INSERT") ts quads_at (Some ([], ts)) x e (λ r word e. also word (below.quads_found r x e)) (λ e. moved ReadsAlso ts ([], ts) x e alone)

  insert_data_found : (ts r u : List Token) (x : Operation × List Token) → ReadsKeyword (codes "INSERT") ts r → ReadsKeyword (codes "DATA") r u → insert_data_at u ≡ Some x → ReadsOperation ts x.0 x.1
  unfolding insert_data_at
  insert_data_found ts r u x word data_word e =
      let q = bind_some (quads_at u) (λ q. Some (operation.InsertData q.0, q.1)) x e in
      moved ReadsOperation ts (operation.InsertData q.0.0, q.0.1) x q.2 (reads.insert_data word data_word (below.quads_found u q.0 q.1))

  delete_data_found : (ts r u : List Token) (x : Operation × List Token) → ReadsKeyword (codes "DELETE") ts r → ReadsKeyword (codes "DATA") r u → delete_data_at u ≡ Some x → ReadsOperation ts x.0 x.1
  unfolding delete_data_at
  delete_data_found ts r u x word data_word e =
      let q = bind_some (quads_at u) (λ q. Some (operation.DeleteData q.0, q.1)) x e in
      moved ReadsOperation ts (operation.DeleteData q.0.0, q.0.1) x q.2 (reads.delete_data word data_word (below.quads_found u q.0 q.1))

  delete_where_found : (ts r u : List Token) (x : Operation × List Token) → ReadsKeyword (codes "DELETE") ts r → ReadsKeyword (codes "WHERE") r u → delete_where_at u ≡ Some x → ReadsOperation ts x.0 x.1
  unfolding delete_where_at
  delete_where_found ts r u x word where_word e =
      let q = bind_some (quads_at u) (λ q. Some (operation.DeleteWhere q.0, q.1)) x e in
      moved ReadsOperation ts (operation.DeleteWhere q.0.0, q.0.1) x q.2 (reads.delete_where word where_word (below.quads_found u q.0 q.1))

  insert_found : (with : Option Name) (ts r u : List Token) (x : Operation × List Token) → ReadsWith ts with r → ReadsKeyword (codes "INSERT") r u → insert_at with u ≡ Some x → ReadsOperation ts x.0 x.1
  unfolding insert_at
  insert_found with ts r u x in_graph word e =
      let q = bind_some (quads_at u) (λ q. where_at q.1 >>= λ p. Some (operation.Modify with [] q.0 p.0, p.1)) x e in
      let p = bind_some (where_at q.0.1) (λ p. Some (operation.Modify with [] q.0.0 p.0, p.1)) x q.2 in
      moved ReadsOperation ts (operation.Modify with [] q.0.0 p.0.0, p.0.1) x p.2
      (with_where in_graph (reads.insert word (below.quads_found u q.0 q.1)) (where_found q.0.1 p.0 p.1))

  delete_found : (with : Option Name) (ts r u : List Token) (x : Operation × List Token) → ReadsWith ts with r → ReadsKeyword (codes "DELETE") r u → delete_at with u ≡ Some x → ReadsOperation ts x.0 x.1
  unfolding delete_at
  delete_found with ts r u x in_graph word e =
      let q = bind_some (quads_at u) (λ q. also_at q.1 >>= λ y. where_at y.1 >>= λ p. Some (operation.Modify with q.0 y.0 p.0, p.1)) x e in
      let y = bind_some (also_at q.0.1) (λ y. where_at y.1 >>= λ p. Some (operation.Modify with q.0.0 y.0 p.0, p.1)) x q.2 in
      let p = bind_some (where_at y.0.1) (λ p. Some (operation.Modify with q.0.0 y.0.0 p.0, p.1)) x y.2 in
      moved ReadsOperation ts (operation.Modify with q.0.0 y.0.0 p.0.0, p.0.1) x p.2
      (with_where in_graph (with_also word (below.quads_found u q.0 q.1) (also_found q.0.1 y.0 y.1)) (where_found y.0.1 p.0 p.1))

  pub inserted_found : (ts r : List Token) (x : Operation × List Token) → ReadsKeyword (codes "INSERT") ts r → inserted_at r ≡ Some x → ReadsOperation ts x.0 x.1
  unfolding inserted_at
  inserted_found ts r x word e =
      by_word (λ _ y rest. ReadsOperation ts y rest) (codes "DATA") r insert_data_at _ x e (λ u data_word e. insert_data_found ts r u x word data_word e) (λ e.
      insert_found None ts ts r x reads.without word e)

  pub deleted_found : (ts r : List Token) (x : Operation × List Token) → ReadsKeyword (codes "DELETE") ts r → deleted_at r ≡ Some x → ReadsOperation ts x.0 x.1
  unfolding deleted_at
  deleted_found ts r x word e =
      by_word (λ _ y rest. ReadsOperation ts y rest) (codes "DATA") r delete_data_at _ x e (λ u data_word e. delete_data_found ts r u x word data_word e) (λ e.
      by_word (λ _ y rest. ReadsOperation ts y rest) (codes "WHERE") r delete_where_at _ x e (λ u where_word e. delete_where_found ts r u x word where_word e) (λ e.
      delete_found None ts ts r x reads.without word e))

  change_found : (with : Option Name) (ts r : List Token) (x : Operation × List Token) → ReadsWith ts with r → change_at with r ≡ Some x → ReadsOperation ts x.0 x.1
  unfolding change_at
  change_found with ts r x in_graph e =
      by_word (λ _ y rest. ReadsOperation ts y rest) (codes "INSERT") r (insert_at with) _ x e (λ u word e. insert_found with ts r u x in_graph word e) (λ e.
      behind_word (λ _ y rest. ReadsOperation ts y rest) (codes "DELETE") r (delete_at with) x e (λ u word e. delete_found with ts r u x in_graph word e))

  pub with_found : (ts r : List Token) (x : Operation × List Token) → ReadsKeyword (codes "WITH") ts r → with_at r ≡ Some x → ReadsOperation ts x.0 x.1
  unfolding with_at
  with_found ts r x word e =
      let n = bind_some (name_at r) (λ n. change_at (Some n.0) n.1) x e in
      change_found (Some n.0.0) ts n.0.1 x (reads.with word (name_found r n.0 n.1)) n.2

  -- ---- what is in the grammar is read

  where_again : {ts rest : List Token} {ps : List Part} → ReadsWhere ts ps rest → where_at ts ≡ Some (ps, rest)
  unfolding where_at
  where_again (group {ts} {r} {rest} {ps} word is) = rw (keyword_again word, below.group_again most_nested r ps rest is) refl

  also_again : {ts r rest : List Token} {ys : List Block} {ps : List Part} → ReadsAlso ts ys r → ReadsWhere r ps rest → also_at ts ≡ Some (ys, r)
  unfolding also_at
  also_again (also {ts} {r} {rest} {ys} word is) after = rw (keyword_again word, below.quads_again r ys rest is) refl
  also_again alone (group word is) = rw (reads_no_other (codes "INSERT") word refl) refl

  insert_again : {ts r rest : List Token} {ys : List Block} {ps : List Part} (with : Option Name) → ReadsQuads ts ys r → ReadsWhere r ps rest → insert_at with ts ≡ Some (operation.Modify with [] ys ps, rest)
  unfolding insert_at
  insert_again {ts} {r} {rest} {ys} with is after = rw (below.quads_again ts ys r is, where_again after) refl

  delete_again : {ts r u rest : List Token} {xs ys : List Block} {ps : List Part} (with : Option Name) → ReadsQuads ts xs r → ReadsAlso r ys u → ReadsWhere u ps rest
      → delete_at with ts ≡ Some (operation.Modify with xs ys ps, rest)
  unfolding delete_at
  delete_again {ts} {r} {u} {rest} {xs} with is more after = rw (below.quads_again ts xs r is, also_again more after, where_again after) refl

  pub data_inserted : {ts r rest : List Token} {xs : List Block} → ReadsKeyword (codes "DATA") ts r → ReadsQuads r xs rest → inserted_at ts ≡ Some (operation.InsertData xs, rest)
  unfolding inserted_at insert_data_at
  data_inserted {ts} {r} {rest} {xs} data_word is = rw (keyword_again data_word, below.quads_again r xs rest is) refl

  pub data_deleted : {ts r rest : List Token} {xs : List Block} → ReadsKeyword (codes "DATA") ts r → ReadsQuads r xs rest → deleted_at ts ≡ Some (operation.DeleteData xs, rest)
  unfolding deleted_at delete_data_at
  data_deleted {ts} {r} {rest} {xs} data_word is = rw (keyword_again data_word, below.quads_again r xs rest is) refl

  pub where_deleted : {ts r rest : List Token} {xs : List Block} → ReadsKeyword (codes "WHERE") ts r → ReadsQuads r xs rest → deleted_at ts ≡ Some (operation.DeleteWhere xs, rest)
  unfolding deleted_at delete_where_at
  where_deleted {ts} {r} {rest} {xs} word is = rw (reads_no_other (codes "DATA") word refl, keyword_again word, below.quads_again r xs rest is) refl

  pub inserted_again : {ts r rest : List Token} {ys : List Block} {ps : List Part} → ReadsQuads ts ys r → ReadsWhere r ps rest → inserted_at ts ≡ Some (operation.Modify None [] ys ps, rest)
  unfolding inserted_at
  inserted_again {ts} {r} {rest} {ys} is after = rw (below.quads_begin ts r ys (codes "DATA") is) (insert_again None is after)

  pub deleted_again : {ts r u rest : List Token} {xs ys : List Block} {ps : List Part} → ReadsQuads ts xs r → ReadsAlso r ys u → ReadsWhere u ps rest → deleted_at ts ≡ Some (operation.Modify None xs ys ps, rest)
  unfolding deleted_at
  deleted_again {ts} {r} {u} {rest} {xs} is more after = rw (below.quads_begin ts r xs (codes "DATA") is, below.quads_begin ts r xs (codes "WHERE") is) (delete_again None is more after)

  pub with_again : {ts r u rest : List Token} {n : Name} {xs ys : List Block} {ps : List Part} → ReadsName ts n r → ReadsChange r xs ys u → ReadsWhere u ps rest
      → with_at ts ≡ Some (operation.Modify (Some n) xs ys ps, rest)
  unfolding with_at change_at
  with_again {ts} {r} {n = n} named (reads.delete word is) after = rw (name_again ts n r named, reads_no_other (codes "INSERT") word refl, keyword_again word) (delete_again (Some n) is alone after)
  with_again {ts} {r} {n = n} named (reads.insert word is) after = rw (name_again ts n r named, keyword_again word) (insert_again (Some n) is after)
  with_again {ts} {r} {n = n} named (reads.both word is insert more) after =
      rw (name_again ts n r named, reads_no_other (codes "INSERT") word refl, keyword_again word) (delete_again (Some n) is (also insert more) after)

  -- ---- they take a token or more

  pub data_takes : {ts r rest : List Token} {k : List ℕ} {xs : List Block} → ReadsKeyword k ts r → ReadsQuads r xs rest → length rest < length ts
  data_takes {ts} {r} {rest} {k} {xs} word is =
      let a = keyword_takes word in
      let c = below.quads_takes r xs rest is in
      omega arith

  pub where_takes : {ts r : List Token} (ps : List Part) (rest : List Token) → ReadsKeyword (codes "WHERE") ts r → ReadsGroup most_nested r ps rest → length rest < length ts
  where_takes {ts} {r} ps rest word is =
      let a = keyword_takes word in
      let c = below.group_takes most_nested r ps rest is in
      omega arith

  pub change_takes : {ts rest : List Token} {xs ys : List Block} → ReadsChange ts xs ys rest → length rest < length ts
  change_takes (reads.delete word is) = data_takes word is
  change_takes (reads.insert word is) = data_takes word is
  change_takes (reads.both word is insert more) =
      let a = data_takes word is in
      let c = data_takes insert more in
      omega arith

pub with_keeps : {ts rest : List Token} {with : Option Name} → ReadsWith ts with rest → length rest ≤ length ts
with_keeps (reads.with {ts} {r} {rest} {n} word named) =
    let a = keyword_takes word in
    let c = name_takes r n rest named in
    omega arith
with_keeps reads.without = omega arith
