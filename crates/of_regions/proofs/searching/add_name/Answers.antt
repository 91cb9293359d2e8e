use Rattle.std.proofs.Common.{◌≡◌, ℕ, true, false, eqb, Option, Some, None, List, [], ◌∷◌, ◌++◌, get_or, refl, sym, ap, ◌∙◌, arith, rules}
use Rattle.std.{specs.List.insert, specs.List.position, proofs.lemmas.Grind.common_steps, proofs.lemmas.Bool.eq-eqb, proofs.lemmas.Bool.ne_eqb}
use Rattle.of_regions.{specs.Naming.with_place, proofs.NamingLemmas.IsPlace, proofs.NamingLemmas.from, proofs.NamingLemmas.named_within, proofs.NamingLemmas.named_behind}
use Rattle.of_regions.proofs.searching.add_name.Goals as goal

found : (j : ℕ) (xs ys : List ℕ) (r o : Option ℕ) → r ≡ position (from j) ys → ys ≡ xs → r ≡ o → position (from j) xs ≡ o
found j xs ys r o is same e = ap (position (from j)) (sym same) ∙ (sym is ∙ e)

pub returns-in_ok-push-in-None : goal.returns-in_ok-push-in-None
returns-in_ok-push-in-None c =
    let j = c.args.name in
    let xs = c.args.names.now.items in
    let items : c.push.new.self.items ≡ xs ++ j ∷ [] = search rules in
    items ∙ named_behind j xs (found j xs c.deref.result.now c.first_from.result None c.first_from.ensures c.deref.ensures.value c.in-None.is)

inserted : (j : ℕ) (xs : List ℕ) (n : ℕ) → IsPlace j xs n → eqb (get_or xs n 0) j ≡ false → insert xs n j ≡ with_place j xs
inserted j xs n p other = sym (p.is ∙ rw other refl)

there : (j : ℕ) (xs : List ℕ) (n : ℕ) → IsPlace j xs n → eqb (get_or xs n 0) j ≡ true → xs ≡ with_place j xs
there j xs n p same = sym (p.is ∙ rw same refl)

pub returns-in_ok-insert-in-Some : goal.returns-in_ok-insert-in-Some
returns-in_ok-insert-in-Some c =
    let j = c.args.name in
    let xs = c.args.names.now.items in
    let at = c.in-Some.at in
    let items : c.insert.new.self.items ≡ insert xs at j = search rules in
    let p = named_within j xs at (found j xs c.deref.result.now c.first_from.result (Some at) c.first_from.ensures c.deref.ensures.value c.in-Some.is) in
    items ∙ inserted j xs at p (ne_eqb (get_or xs at 0) j (let w = p.within in grind (arith, common_steps)))

pub returns-else-index-name : goal.returns-else-index-name
returns-else-index-name c =
    let j = c.args.name in
    let xs = c.args.names.now.items in
    let at = c.in-Some.at in
    let p = named_within j xs at (found j xs c.deref.result.now c.first_from.result (Some at) c.first_from.ensures c.deref.ensures.value c.in-Some.is) in
    there j xs at p (eq-eqb (get_or xs at 0) j (let w = p.within in grind (arith, common_steps)))
