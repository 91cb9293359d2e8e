-- What was read as a small message is in its places.
use Rattle.std.proofs.Common.{◌≡◌, ◌≤◌, ℕ, Bool, true, false, eqb, ltb, cond, List, [], ◌∷◌, length, drop, Some, Result, Ok, Err, refl, subst, arith, inl, inr}
use Rattle.std.{specs.Prelude.slice_index, specs.Prelude.bit_and, specs.Prelude.◌||◌, proofs.lemmas.Bool.eqb-true, proofs.lemmas.Bool.ltb-true, proofs.lemmas.Bool.Decides.nat_tests}
use Rattle.byteorder.specs.Endian.{big_number}
use Rattle.of_wire.specs.{declared.code.Code.Code, Refusals.refusal}
use Rattle.of_messages.specs.{declared.async_masks.AsyncMasks.AsyncMasks, declared.config.SwitchConfig.SwitchConfig, declared.config.TableMod.TableMod, declared.port_mod.PortMod.PortMod}
use Rattle.of_messages.specs.declared.role.RoleRequest.{RoleRequest}
use Rattle.of_messages.specs.declared.role.RoleRequest.TheVariants.{NoChange, Equal, Master, Slave}
use Rattle.of_messages.specs.{AsyncConfigs.async_masks_of, Configs.set_config_of, Configs.names_table, Configs.table_mod_of, PortMods.known_bits, PortMods.port_mod_of}
use Rattle.of_messages.specs.Roles.{asked_by, role_request_of}
use Rattle.of_formats.{specs.Structs.bytes_from, proofs.Binding.is_known}
use Rattle.of_laws.specs.Cells.{byte, u16_cell, u32_cell, pad, plain}
use Rattle.of_laws.{specs.Grammar.role_cells, specs.Grammar.async_config_cells, specs.Requests.NamesTable, proofs.OnlySmall.six_bytes, proofs.Places.Says}

pub config_found : (c : SwitchConfig) (m : List ℕ) → set_config_of m ≡ Ok c → Says 8 (u16_cell 0 ∷ u16_cell c.miss_send_len ∷ []) m
config_found c m h = by_flags (eqb (big_number 2 (drop 8 m)) 0) refl h
  where
    by_flags : (t : Bool) → eqb (big_number 2 (drop 8 m)) 0 ≡ t → cond {A = Result SwitchConfig Code} t (Ok (record { miss_send_len = big_number 2 (drop 10 m) })) (Err (refusal 10 0)) ≡ Ok c → Says 8 (u16_cell 0 ∷ u16_cell c.miss_send_len ∷ []) m
    by_flags false is e = absurd cc
    by_flags true is e =
        let same : record { miss_send_len = big_number 2 (drop 10 m) } ≡ c = cc in
        subst (λ (x : SwitchConfig). Says 8 (u16_cell 0 ∷ u16_cell x.miss_send_len ∷ []) m) same (eqb-true _ _ is, (refl, tt))

pub named : (t : ℕ) → names_table t ≡ true → NamesTable t
named t h = by_low (ltb t 16) refl h
  where
    by_low : (b : Bool) → ltb t 16 ≡ b → (b || eqb t 255) ≡ true → NamesTable t
    by_low true is e = inl (ltb-true t 16 is)
    by_low false is e = inr (eqb-true t 255 e)

pub record TableModSays (t : TableMod) (m : List ℕ) : Type 0 where
  pub says : Says 8 (byte t.table ∷ pad 3 ∷ u32_cell t.config ∷ []) m
  pub valid : NamesTable t.table

pub table_mod_found : (t : TableMod) (m : List ℕ) → table_mod_of m ≡ Ok t → TableModSays t m
table_mod_found t m h = by_table (names_table (slice_index m 8)) refl h
  where
    by_table : (b : Bool) → names_table (slice_index m 8) ≡ b → cond {A = Result TableMod Code} b (Ok (record { table = slice_index m 8; config = big_number 4 (drop 12 m) })) (Err (refusal 8 0)) ≡ Ok t → TableModSays t m
    by_table false is e = absurd cc
    by_table true is e =
        let same : record { table = slice_index m 8; config = big_number 4 (drop 12 m) } ≡ t = cc in
        subst (λ (x : TableMod). TableModSays x m) same (record { says = (refl, (refl, tt)); valid = named (slice_index m 8) is })

pub record PortModSays (p : PortMod) (m : List ℕ) : Type 0 where
  pub says : Says 8 (u32_cell p.port ∷ pad 4 ∷ plain 6 p.hw ∷ pad 2 ∷ u32_cell p.config ∷ u32_cell p.mask ∷ pad 4 ∷ pad 4 ∷ []) m
  pub valid : bit_and p.mask 101 ≡ p.mask

abbrev mask_in : List ℕ → ℕ
mask_in m = big_number 4 (drop 28 m)

abbrev made : List ℕ → PortMod
made m = record { port = big_number 4 (drop 8 m); hw = bytes_from 16 6 m; config = big_number 4 (drop 24 m); mask = mask_in m }

pub port_mod_found : (p : PortMod) (m : List ℕ) → 22 ≤ length m → port_mod_of m ≡ Ok p → PortModSays p m
port_mod_found p m long h = by_mask (eqb (bit_and (mask_in m) known_bits) (mask_in m)) refl h
  where
    by_mask : (b : Bool) → eqb (bit_and (mask_in m) known_bits) (mask_in m) ≡ b → cond {A = Result PortMod Code} b (Ok (made m)) (Err (refusal 7 2)) ≡ Ok p → PortModSays p m
    by_mask false is e = absurd cc
    by_mask true is e =
        let same : made m ≡ p = cc in
        subst (λ (x : PortMod). PortModSays x m) same (record { says = (refl, (six_bytes m long, (refl, (refl, tt)))); valid = eqb-true _ _ is })

-- ---- ROLE_REQUEST

known_0 : (n generation : ℕ) → asked_by n generation ≡ Some NoChange → n ≡ 0
unfolding asked_by
known_0 n generation h = grind (arith, nat_tests)

known_1 : (n generation : ℕ) → asked_by n generation ≡ Some Equal → n ≡ 1
unfolding asked_by
known_1 n generation h = grind (arith, nat_tests)

known_2 : (n generation g : ℕ) → asked_by n generation ≡ Some (Master g) → n ≡ 2
unfolding asked_by
known_2 n generation g h = grind (arith, nat_tests)

known_3 : (n generation g : ℕ) → asked_by n generation ≡ Some (Slave g) → n ≡ 3
unfolding asked_by
known_3 n generation g h = grind (arith, nat_tests)

same_2 : (n generation g : ℕ) → n ≡ 2 → asked_by n generation ≡ Some (Master g) → generation ≡ g
unfolding asked_by
same_2 n generation g is h = let e : Some (Master generation) ≡ Some (Master g) = rw is at h in cc

same_3 : (n generation g : ℕ) → n ≡ 3 → asked_by n generation ≡ Some (Slave g) → generation ≡ g
unfolding asked_by
same_3 n generation g is h = let e : Some (Slave generation) ≡ Some (Slave g) = rw is at h in cc

pub role_found : (r : RoleRequest) (m : List ℕ) → role_request_of m ≡ Ok r → Says 8 (role_cells r) m
role_found r m h = by_role r (is_known (asked_by (big_number 4 (drop 8 m)) (big_number 8 (drop 16 m))) (refusal 11 2) r h)
  where
    by_role : (r : RoleRequest) → asked_by (big_number 4 (drop 8 m)) (big_number 8 (drop 16 m)) ≡ Some r → Says 8 (role_cells r) m
    by_role NoChange e = (known_0 _ _ e, tt)
    by_role Equal e = (known_1 _ _ e, tt)
    by_role (Master g) e = (known_2 _ _ g e, (same_2 _ _ g (known_2 _ _ g e) e, tt))
    by_role (Slave g) e = (known_3 _ _ g e, (same_3 _ _ g (known_3 _ _ g e) e, tt))

-- ---- SET_ASYNC

pub async_found : (a : AsyncMasks) (m : List ℕ) → async_masks_of m ≡ a → Says 8 (async_config_cells a) m
async_found a m h = subst (λ (x : AsyncMasks). Says 8 (async_config_cells x) m) h (refl, (refl, (refl, (refl, (refl, (refl, tt))))))
