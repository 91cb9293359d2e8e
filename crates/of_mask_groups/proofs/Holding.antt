-- Groups go on to index the entries where these keep their priorities and fields.
use Rattle.std.proofs.Common.{◌≡◌, ◌≢◌, ℕ, true, List, Option, Some, refl, sym, ◌∙◌, ap, subst, ⊎_elim}
use Rattle.std.proofs.lemmas.Bool.{cases_eq}
use Rattle.slab.specs.Slab.{Slab, get, Updates}
use Rattle.of_headers.specs.declared.key.FieldKey.{FieldKey}
use Rattle.of_oxm.specs.{declared.match_field.MatchField.MatchField, NormalForm.IsMatch, Masks.looked_at, Masks.value_of}
use Rattle.of_mask_groups.specs.Grouping.{is_ranked, LooksLike, AsksFor, IsIndex, IsGroup, IsIn, AreGrouped}
use Rattle.of_mask_groups.specs.{declared.entry.Entry.Entry, declared.group.Group.Group}

-- the number has an entry of the same priority and fields
pub record Stays (entries : Slab Entry) (n : ℕ) (e : Entry) : Type 0 where
  pub entry : Entry
  pub stands : get entries n ≡ Some entry
  pub priority : entry.priority ≡ e.priority
  pub fields : entry.fields ≡ e.fields

pub looks_same : (g : Group) (d e : Entry) → d.fields ≡ e.fields → LooksLike g d → LooksLike g e
looks_same g d e s l = record { bits = λ f. l.bits f ∙ ap (λ (m : List MatchField). looked_at m f) s }

pub asks_same : (k : FieldKey) (d e : Entry) → d.fields ≡ e.fields → AsksFor k d → AsksFor k e
asks_same k d e s a = record { values = λ f. a.values f ∙ ap (λ (m : List MatchField). value_of m f) s }

index_kept : (old new : Slab Entry) (g : Group) → ((n : ℕ) (e : Entry) → get old n ≡ Some e → LooksLike g e → Stays new n e) → IsIndex old g → IsIndex new g
index_kept old new g stays h = record {
  settled = h.settled;
  members = λ p n c. (let m = h.members p n c in let s = stays n m.entry m.stands m.looks in record { entry = s.entry; stands = s.stands; looks = looks_same g m.entry s.entry (sym s.fields) m.looks; priority = s.priority ∙ m.priority });
  cells = λ k n c. (let m = h.cells k n c in let s = stays n m.entry m.stands m.looks in record { entry = s.entry; stands = s.stands; looks = looks_same g m.entry s.entry (sym s.fields) m.looks; asks = λ j a. m.asks j (asks_same j s.entry m.entry s.fields a); ranked = subst (λ p. is_ranked g p n ≡ true) (sym s.priority) m.ranked });
  occupied = h.occupied;
}

pub group_kept : (old new : Slab Entry) (g : Group) → ((n : ℕ) (e : Entry) → get old n ≡ Some e → LooksLike g e → Stays new n e) → IsGroup old g → IsGroup new g
group_kept old new g stays h = record { index = index_kept old new g stays h.index; some = h.some }

in_same : (g : Group) (n : ℕ) (d e : Entry) → d.priority ≡ e.priority → d.fields ≡ e.fields → IsIn g n d → IsIn g n e
in_same g n d e p f x = record {
  looks = looks_same g d e f x.looks;
  ranked = subst (λ q. is_ranked g q n ≡ true) p x.ranked;
  cell = λ k a. x.cell k (asks_same k e d (sym f) a);
}

-- where each entry stays, and there is no other
pub grouped_kept : (old new : Slab Entry) (gs : List Group) → ((n : ℕ) (e : Entry) → get old n ≡ Some e → Stays new n e) → ((n : ℕ) (e : Entry) → get new n ≡ Some e → Stays old n e) → AreGrouped old gs → AreGrouped new gs
grouped_kept old new gs stays was a = record {
  falling = a.falling;
  each = λ g c. group_kept old new g (λ n e h l. stays n e h) (a.each g c);
  complete = λ n e h. (let s = was n e h in let x = a.complete n s.entry s.stands in record { group = x.group; there = x.there; within = in_same x.group n s.entry e s.priority s.fields x.within });
  normal = λ n e h. (let s = was n e h in subst (λ (m : List MatchField). IsMatch m) s.fields (a.normal n s.entry s.stands));
}

same_some : (o : Option Entry) (d e : Entry) → o ≡ Some d → o ≡ Some e → d ≡ e
same_some o d e h k = cc

stays_updated : (old new : Slab Entry) (n : ℕ) (d e : Entry) → get old n ≡ Some d → get new n ≡ Some e → ((m : ℕ) → m ≢ n → get new m ≡ get old m) → e.priority ≡ d.priority → e.fields ≡ d.fields → (m : ℕ) (x : Entry) → get old m ≡ Some x → Stays new m x
stays_updated old new n d e stood stands others p f m x h = ⊎_elim
    (λ s.
    let q : x ≡ d = same_some (get old n) x d (subst (λ k. get old k ≡ Some x) s h) stood in
    record { entry = e; stands = subst (λ k. get new k ≡ Some e) (sym s) stands; priority = p ∙ ap (λ (z : Entry). z.priority) (sym q); fields = f ∙ ap (λ (z : Entry). z.fields) (sym q) })
    (λ ne. record { entry = x; stands = others m ne ∙ h; priority = refl; fields = refl })
    (cases_eq m n)

-- an entry changes in its age alone
pub grouped_renewed : (old new : Slab Entry) (gs : List Group) (n : ℕ) (d e : Entry) → get old n ≡ Some d → Updates old new n (Some e) → e.priority ≡ d.priority → e.fields ≡ d.fields → AreGrouped old gs → AreGrouped new gs
grouped_renewed old new gs n d e stood u p f a =
    grouped_kept old new gs (stays_updated old new n d e stood u.changed u.others p f) (stays_updated new old n e d u.changed stood (λ m ne. sym (u.others m ne)) (sym p) (sym f)) a
