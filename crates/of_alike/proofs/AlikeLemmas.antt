-- What leaves, at one place and at all.
use Rattle.std.proofs.Common.{◌≡◌, ◌⊎◌, ℕ, ◌+◌, ◌<◌, eqb, cond, Bool, true, false, List, [], ◌∷◌, ◌++◌, map, length, take, get_or, Option, Some, None, Decides, refl, sym, ap, ◌∙◌, inl, inr}
use Rattle.std.{specs.List.Contains, specs.Option.IfNone, proofs.lemmas.Bool.eqb-true, proofs.lemmas.Bool.Decides.Decides-like, proofs.lemmas.List.Elements.filter_more}
use Rattle.of_machine.specs.{declared.data.Item.Item, declared.data.Item.TheVariants.PacketIn, declared.data.Item.TheVariants.Sent, declared.data.ToController.ToController}
use Rattle.of_alike.specs.Alike.{IsAlikeAt, LeavesAlike, leaves_at, leaving, sent_by, to_controller}
use Rattle.of_alike.specs.{declared.alike.Compared.Compared, declared.alike.Where.Where, declared.alike.Where.TheVariants.Controller, declared.alike.Where.TheVariants.Port as ByPort}

-- ---- what comes later

cond_front : (b : Bool) (frame : List ℕ) (xs ys zs : List (List ℕ)) → xs ≡ ys ++ zs → cond b (frame ∷ xs) xs ≡ cond b (frame ∷ ys) ys ++ zs
cond_front true frame xs ys zs e = ap (λ x. frame ∷ x) e
cond_front false frame xs ys zs e = e

pub sent_front : (q : ℕ) (a x : List Item) → sent_by q (a ++ x) ≡ sent_by q a ++ sent_by q x
sent_front q [] x = refl
sent_front q (Sent port frame ∷ a) x = cond_front (eqb port q) frame (sent_by q (a ++ x)) (sent_by q a) (sent_by q x) (sent_front q a x)
sent_front q (PacketIn p ∷ a) x = sent_front q a x

pub told_front : (a x : List Item) → to_controller (a ++ x) ≡ to_controller a ++ to_controller x
told_front [] x = refl
told_front (Sent port frame ∷ a) x = told_front a x
told_front (PacketIn p ∷ a) x = ap (λ xs. p ∷ xs) (told_front a x)

pub alike_before : (c : Compared) (a b x : List Item) → LeavesAlike c a b → LeavesAlike c (a ++ x) (b ++ x)
alike_before c a b x alike = record {
  sent = λ q. sent_front q a x ∙ ap (λ xs. xs ++ sent_by q x) (alike.sent q) ∙ sym (sent_front q b x);
  told = λ e. told_front a x ∙ ap (λ xs. xs ++ to_controller x) (alike.told e) ∙ sym (told_front b x);
}

-- ---- one place

frames_in : List Item → List (List ℕ)
frames_in [] = []
frames_in (Sent port frame ∷ items) = frame ∷ frames_in items
frames_in (PacketIn p ∷ items) = frames_in items

packets_in : List Item → List ToController
packets_in [] = []
packets_in (Sent port frame ∷ items) = packets_in items
packets_in (PacketIn p ∷ items) = p ∷ packets_in items

sent_there : (q : ℕ) (items : List Item) → frames_in (leaving (ByPort q) items) ≡ sent_by q items
unfolding frames_in
sent_there q [] = refl
sent_there q (Sent port frame ∷ items) = by_test (eqb port q) (sent_there q items)
  where
    by_test : (b : Bool) → frames_in (leaving (ByPort q) items) ≡ sent_by q items → frames_in (cond b (Sent port frame ∷ leaving (ByPort q) items) (leaving (ByPort q) items)) ≡ cond b (frame ∷ sent_by q items) (sent_by q items)
    by_test true e = ap (λ xs. frame ∷ xs) e
    by_test false e = e
sent_there q (PacketIn p ∷ items) = sent_there q items

there_sent : (q : ℕ) (items : List Item) → map (Sent q) (sent_by q items) ≡ leaving (ByPort q) items
there_sent q [] = refl
there_sent q (Sent port frame ∷ items) = by_test (eqb port q) (eqb-true port q) (there_sent q items)
  where
    by_test : (b : Bool) → (b ≡ true → port ≡ q) → map (Sent q) (sent_by q items) ≡ leaving (ByPort q) items → map (Sent q) (cond b (frame ∷ sent_by q items) (sent_by q items)) ≡ cond b (Sent port frame ∷ leaving (ByPort q) items) (leaving (ByPort q) items)
    by_test true same e = let p : port ≡ q = same refl in cc
    by_test false same e = e
there_sent q (PacketIn p ∷ items) = there_sent q items

told_there : (items : List Item) → packets_in (leaving Controller items) ≡ to_controller items
unfolding packets_in
told_there [] = refl
told_there (Sent port frame ∷ items) = told_there items
told_there (PacketIn p ∷ items) = ap (λ xs. p ∷ xs) (told_there items)

there_told : (items : List Item) → map PacketIn (to_controller items) ≡ leaving Controller items
there_told [] = refl
there_told (Sent port frame ∷ items) = there_told items
there_told (PacketIn p ∷ items) = ap (λ xs. PacketIn p ∷ xs) (there_told items)

alike_there : (at : Where) (a b : List Item) → leaving at a ≡ leaving at b → IsAlikeAt at a b
alike_there (ByPort q) a b e = sym (sent_there q a) ∙ ap frames_in e ∙ sent_there q b
alike_there Controller a b e = sym (told_there a) ∙ ap packets_in e ∙ told_there b

there_alike : (at : Where) (a b : List Item) → IsAlikeAt at a b → leaving at a ≡ leaving at b
there_alike (ByPort q) a b e = sym (there_sent q a) ∙ ap (map (Sent q)) e ∙ there_sent q b
there_alike Controller a b e = sym (there_told a) ∙ ap (map PacketIn) e ∙ there_told b

pub tells_alike : (at : Where) (a b : List Item) (r : Bool) → Decides r (leaving at a ≡ leaving at b) → Decides r (IsAlikeAt at a b)
tells_alike at a b r h = Decides-like r (alike_there at a b) (there_alike at a b) h

-- ---- ports

-- the port is listed, or nothing leaves by it
abbrev pub IsListedOrSilent : List ℕ → List Item → ℕ → Type 0
IsListedOrSilent ports items q = Contains ports q ⊎ (leaving (ByPort q) items ≡ [])

pub ports_more : (old new : List ℕ) (items : List Item) (i : ℕ) (item : Item) → i < length items → item ≡ get_or items i item
    → ((q : ℕ) → Contains old q → Contains new q) → ((q : ℕ) → leaves_at (ByPort q) item ≡ true → Contains new q)
    → ((q : ℕ) → IsListedOrSilent old (take i items) q) → (q : ℕ) → IsListedOrSilent new (take (i + 1) items) q
ports_more old new items i item lt is kept named so_far q = by_test (leaves_at (ByPort q) item) refl (so_far q)
  where
    next : leaving (ByPort q) (take (i + 1) items) ≡ leaving (ByPort q) (take i items) ++ cond (leaves_at (ByPort q) item) (item ∷ []) []
    next = filter_more (leaves_at (ByPort q)) items i item lt ∙ ap (λ x. leaving (ByPort q) (take i items) ++ cond (leaves_at (ByPort q) x) (x ∷ []) []) (sym is)

    by_test : (b : Bool) → leaves_at (ByPort q) item ≡ b → IsListedOrSilent old (take i items) q → IsListedOrSilent new (take (i + 1) items) q
    by_test true e h = inl (named q e)
    by_test false e (inl c) = inl (kept q c)
    by_test false e (inr none) = inr (next ∙ ap (λ b. leaving (ByPort q) (take i items) ++ cond b (item ∷ []) []) e ∙ ap (λ xs. xs ++ []) none)

-- what leaves by each listed port is the same, and by each other one nothing leaves
pub all_ports : (some all : List ℕ) (a b : List Item) → ((q : ℕ) → IsListedOrSilent some a q) → ((q : ℕ) → Contains some q → Contains all q) → ((q : ℕ) → IsListedOrSilent all b q)
    → ((q : ℕ) → Contains all q → sent_by q a ≡ sent_by q b) → (q : ℕ) → sent_by q a ≡ sent_by q b
all_ports some all a b first kept second same q = by_case (first q) (second q)
  where
    by_case : IsListedOrSilent some a q → IsListedOrSilent all b q → sent_by q a ≡ sent_by q b
    by_case (inl c) h = same q (kept q c)
    by_case (inr none) (inl c) = same q c
    by_case (inr none) (inr silent) = alike_there (ByPort q) a b (none ∙ sym silent)

pub if_none : {X : Type 0} (r : Option X) (P Q : Type 0) → (P → Q) → IfNone r P → IfNone r Q
if_none None P Q f h = f h
if_none (Some x) P Q f h = tt
