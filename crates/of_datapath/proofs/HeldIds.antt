-- The ids in messages and those of held frames, which are counted alike.
use Rattle.std.proofs.Common.{◌≡◌, ◌<◌, ◌+◌, ℕ, Bool, true, false, List, [], ◌∷◌, ◌++◌, length, take, flat_map, slice_get, Some, ap, ◌∙◌, sym, refl}
use Rattle.std.proofs.lemmas.Grind.{flat_map-append}
use Rattle.of_wire.specs.declared.limits.TheConstants.{OFP_NO_BUFFER}
use Rattle.of_datapath.specs.Buffers.{Held, HeldFrames, held, hold, hold_all, is_id, last_id, most_held}
use Rattle.of_datapath.specs.Told.{each_told, effect_of, effects_of, frames_for, given_items, held_after, held_of, id_after, id_after_all, is_held, limit_of, packet_in_of}
use Rattle.of_datapath.{specs.declared.control.AsyncConfig.AsyncConfig, proofs.Circle.all_is_id, proofs.Circle.held_under, proofs.Circle.others_under}
use Rattle.of_machine.specs.{declared.data.Item.Item, declared.data.Item.TheVariants.Sent, declared.data.Item.TheVariants.PacketIn, declared.data.ToController.ToController}
use Rattle.of_ports.specs.declared.port.Port.{Port}

module _ (heard : AsyncConfig) where
  -- an item is told at its place
  told_at : (id : ℕ) (first rest : List Item) (i : Item) → slice_get (each_told heard id (first ++ i ∷ rest)) (length first) ≡ Some (effect_of heard (id_after_all heard id first) i)
  told_at id [] rest i = refl
  told_at id (x ∷ first) rest i = told_at (id_after heard id x) first rest i

  -- the id after items is the next one once their frames are held
  next_by : (b : HeldFrames) (items : List Item) (p : ToController) (t : Bool) → is_held heard p ≡ t → ((c : HeldFrames) → (hold_all (flat_map (frames_for heard) items) c).next ≡ id_after_all heard c.next items) → (hold_all (flat_map (frames_for heard) (PacketIn p ∷ items)) b).next ≡ id_after_all heard b.next (PacketIn p ∷ items)
  next_by b items p true e rest = rw e (rest (hold (held_of p) b))
  next_by b items p false e rest = rw e (rest b)

  pub next_is : (b : HeldFrames) (items : List Item) → (hold_all (flat_map (frames_for heard) items) b).next ≡ id_after_all heard b.next items
  next_is b [] = refl
  next_is b (Sent port frame ∷ items) = next_is b items
  next_is b (PacketIn p ∷ items) = next_by b items p (is_held heard p) refl (λ c. next_is c items)

  pub ids : (b : HeldFrames) (first : List Item) → is_id b.next ≡ true → is_id (id_after_all heard b.next first) ≡ true
  ids b first n = ap is_id (sym (next_is b first)) ∙ all_is_id (flat_map (frames_for heard) first) b n

  -- the frames of items, one of which is held
  frames_are : (first rest : List Item) (p : ToController) → is_held heard p ≡ true → flat_map (frames_for heard) (first ++ PacketIn p ∷ rest) ≡ flat_map (frames_for heard) first ++ held_of p ∷ flat_map (frames_for heard) rest
  frames_are first rest p e =
      let here : frames_for heard (PacketIn p) ≡ held_of p ∷ [] = rw e refl in
      flat_map-append (frames_for heard) first (PacketIn p ∷ rest)
      ∙ ap (λ (hs : List Held). flat_map (frames_for heard) first ++ (hs ++ flat_map (frames_for heard) rest)) here

  pub distinct : (b : HeldFrames) (first more : List Item) (p : ToController) → is_id b.next ≡ true → is_held heard p ≡ true → length (flat_map (frames_for heard) more) + 1 < last_id → id_after_all heard b.next (first ++ PacketIn p ∷ more) ≡ id_after_all heard b.next first → ⊥
  distinct b first more p n e few same =
      let last : (hold_all (flat_map (frames_for heard) first ++ held_of p ∷ flat_map (frames_for heard) more) b).next ≡ id_after_all heard b.next (first ++ PacketIn p ∷ more) = ap (λ (hs : List Held). (hold_all hs b).next) (sym (frames_are first more p e)) ∙ next_is b (first ++ PacketIn p ∷ more) in
      others_under (flat_map (frames_for heard) first) (flat_map (frames_for heard) more) (held_of p) b n few (last ∙ (same ∙ sym (next_is b first)))

  module _ (ports : List Port) (b : HeldFrames) (items first rest : List Item) (p : ToController) (split : given_items heard ports items ≡ first ++ PacketIn p ∷ rest) where
    told_as : slice_get (effects_of heard ports b items) (length first) ≡ Some (effect_of heard (id_after_all heard b.next first) (PacketIn p))
    told_as = ap (λ (is : List Item). slice_get (each_told heard b.next is) (length first)) split ∙ told_at b.next first rest (PacketIn p)

    pub told : is_held heard p ≡ true → slice_get (effects_of heard ports b items) (length first) ≡ Some (packet_in_of p (id_after_all heard b.next first) (take (limit_of heard p) p.frame))
    told e = told_as ∙ rw e refl

    pub whole : is_held heard p ≡ false → slice_get (effects_of heard ports b items) (length first) ≡ Some (packet_in_of p OFP_NO_BUFFER p.frame)
    whole e = told_as ∙ rw e refl

    pub found : is_id b.next ≡ true → is_held heard p ≡ true → length (flat_map (frames_for heard) rest) < most_held → held (id_after_all heard b.next first) (held_after heard ports b items) ≡ Some (held_of p)
    found n e few =
        let fs = flat_map (frames_for heard) first in
        let rs = flat_map (frames_for heard) rest in
        let all : flat_map (frames_for heard) (given_items heard ports items) ≡ fs ++ held_of p ∷ rs = ap (flat_map (frames_for heard)) split ∙ frames_are first rest p e in
        ap (λ (id : ℕ). held id (held_after heard ports b items)) (sym (next_is b first))
        ∙ (ap (λ (hs : List Held). held (hold_all fs b).next (hold_all hs b)) all
        ∙ held_under fs rs (held_of p) b n few)
