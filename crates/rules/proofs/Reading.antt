-- Demands 1 and 3: what reading gives back and the sheet buffer afterwards meet the contract `Reads`. And the end of it all: what is
-- laid and then read is the sheet that was laid.
--
-- In order: what is accepted; what is accepted only; the contract (`reads`); there and back (`there_and_back`); picture lines
-- (`laid-on-lines`, `read-on-lines`); fill (`no-packet-cut`, `second-act`).
-- Assumes nothing.
use Prim.Native.Nat.{ℕ, ◌≤◌, ◌<◌, ◌%◌}
use mathlib.Core.Path.{◌≡◌, refl, sym, ap, ◌∙◌, subst}
use mathlib.Core.Bool.{Bool, true, false}
use mathlib.Core.List.{List, [], ◌∷◌, ◌++◌, append_assoc, append-nil}
use native.Mathlib.Omega.{arith}
use lib.Dec.{eqb, leb}
use lib.ListN.{length, drop}
use borrow.Author.Tests.{eq-eqb, le-leb, leb-true}
use Rattle.rules.specs.Base.{All, Bytes}
use Rattle.rules.specs.Systems.{System, known, system}
use Rattle.rules.specs.Packet.{Packet, body, check_of}
use Rattle.rules.specs.Danc.{Item, Good, packets_of, header, danc, string}
use Rattle.rules.specs.Sheet.{sheet_of, system_in}
use Rattle.rules.specs.Blocks.{runs, block_sizes, area_size, user_bytes_in}
use Rattle.rules.specs.Packing2.{fill}
use Rattle.rules.specs.Numbers.{Outcome, listed, refused, unless, and_then, packets_in}
use Rattle.rules.specs.Reading.{string_row, packets_of_user_bytes, packing_found, reading, read_back_of, buffer_of, read, buffer_after}
use Rattle.rules.specs.Demands.{SheetOf, Lays, Gives, Comes, named, Unread, Reads}
use Rattle.rules.specs.declared.Laid.{Laid}
use Rattle.rules.specs.declared.ReadBack.{ReadBack}
use Rattle.rules.proofs.Basics.{never, joined-append}
use Rattle.rules.proofs.Blocks.{gather-length, gather-bytes, Facts, facts-of}
use Rattle.rules.proofs.Lines.{OnAllowed, sound-lines, good-lines}
use Rattle.rules.proofs.Strings.{string-read}
use Rattle.rules.proofs.Users.{fill-ends, users-read, users-laid, users-unique, users-refused, written-gives}
use Rattle.rules.proofs.Sheets.{system-back, unless-from}

-- an area of a known system's size
module _ (sys : ℕ) (k : known sys ≡ true) (area : List ℕ) (l : length area ≡ area_size (system sys)) where
  abbrev y : System
  y = system sys

  abbrev ub : List ℕ
  ub = user_bytes_in y area

  facts : Facts y
  facts = facts-of sys k

  -- reading comes down to the user bytes and the room for the sheet
  pub reading-is : (room : ℕ)
      → reading sys area room
      ≡ and_then (packets_of_user_bytes y (block_sizes y) ub) (λ (ps : List Packet). unless 17 (leb (length (sheet_of sys ps)) room) (listed ps))
  unfolding reading
  reading-is room = rw (k, eq-eqb (length area) (area_size y) l)

  -- what a list gives is accepted, and the list comes back
  accepted : (j : ℕ) (ps : List Packet) (room : ℕ) → Comes sys area j ps → length (sheet_of sys ps) ≤ room
      → (reading sys area room ≡ listed ps) × (packing_found ub ≡ named j ps)
  accepted j ps room c h =
      let w = users-read y facts.last (block_sizes y) facts.packs facts.roomy facts.whole j ps ub c in
      (reading-is room ∙ rw (w.0, le-leb (length (sheet_of sys ps)) room h), w.1)

  -- what is accepted, a list gives
  accepted-only : Bytes area → (room : ℕ) (ps : List Packet) → reading sys area room ≡ listed ps
      → (j : ℕ) × Comes sys area j ps × (length (sheet_of sys ps) ≤ room)
  accepted-only b room ps e = go (packets_of_user_bytes y (block_sizes y) ub) refl (sym (reading-is room) ∙ e)
    where
      fitted : (qs : List Packet) (t : Bool) → leb (length (sheet_of sys qs)) room ≡ t → unless 17 t (listed qs) ≡ listed ps
          → (qs ≡ ps) × (length (sheet_of sys qs) ≤ room)
      fitted qs true q e = (cc, leb-true (length (sheet_of sys qs)) room q)
      fitted qs false q e = never (cc)

      go : (o : Outcome) → packets_of_user_bytes y (block_sizes y) ub ≡ o
          → and_then o (λ (qs : List Packet). unless 17 (leb (length (sheet_of sys qs)) room) (listed qs)) ≡ listed ps
          → (j : ℕ) × Comes sys area j ps × (length (sheet_of sys ps) ≤ room)
      go (refused n i) q e = never (cc)
      go (listed qs) q e =
          let w = fitted qs (leb (length (sheet_of sys qs)) room) refl e in
          let v =
          users-laid y facts.last (block_sizes y) facts.packs facts.roomy facts.whole qs ub
          (gather-length (area_size y) (runs y) area facts.within l) (gather-bytes (runs y) area b) q in
          subst (λ (rs : List Packet). (j : ℕ) × Comes sys area j rs × (length (sheet_of sys rs) ≤ room)) w.0 (v.0, v.1, w.1)

-- a refusal's number is not 0
reading-refused : (sys : ℕ) (area : List ℕ) (room n i : ℕ) → reading sys area room ≡ refused n i → 1 ≤ n
unfolding reading
reading-refused sys area room n i e =
    unless-from 1 3 (known sys) _ n i
    (unless-from 1 4 (eqb (length area) (area_size (system sys))) _ n i (from-users (packets_of_user_bytes y (block_sizes y) ub) refl) (omega arith))
    (omega arith) e
  where
    y : System
    y = system sys

    ub : List ℕ
    ub = user_bytes_in y area

    from-users : (o : Outcome) → packets_of_user_bytes y (block_sizes y) ub ≡ o
        → and_then o (λ (ps : List Packet). unless 17 (leb (length (sheet_of sys ps)) room) (listed ps)) ≡ refused n i → 1 ≤ n
    from-users (refused m j) q e = users-refused y (block_sizes y) ub n i (q ∙ e)
    from-users (listed ps) q e = unless-from 1 17 (leb (length (sheet_of sys ps)) room) (listed ps) n i (λ f. never (cc)) (omega arith) e

-- ---- the contract

-- the contract of reading follows from its first two fields, over an area of bytes
pub reads : (sys : ℕ) (area sheet : List ℕ) (r : ReadBack) (after : List ℕ) → Bytes area → r ≡ read sys area sheet
    → after ≡ buffer_after sys area sheet
    → Reads sys area sheet r after
unfolding read buffer_after
reads sys area sheet r after b er ea =
    record {
      answer = er;
      buffer = ea;
      demand1 = λ n. unread (reading sys area (length sheet)) er ea n;
      demand3 = λ k l.
          record {
            accepts = λ j ps c h.
                let w = accepted sys k area l j ps (length sheet) c h in
                (er ∙ rw (w.0, w.1), ea ∙ rw w.0);
            only = λ n. only k l (reading sys area (length sheet)) refl (ap (λ (x : ReadBack). x.number) er) n;
            one = λ i j ps qs g h.
                let f = facts-of sys k in
                let y : System = system sys in
                users-unique y f.last (block_sizes y) f.packs f.roomy f.whole i j ps qs (user_bytes_in y area) g h;
          };
    }
  where
    found : ℕ
    found = packing_found (user_bytes_in (system sys) area)

    unread : (o : Outcome) → r ≡ read_back_of sys found o → after ≡ buffer_of sys sheet o → (r.number ≡ 0 → ⊥) → Unread r sheet after
    unread (listed ps) p q n = absurd (n (ap (λ (x : ReadBack). x.number) p))
    unread (refused m i) p q n =
        record {
          kept = q;
          packing = ap (λ (x : ReadBack). x.packing) p;
          packets = ap (λ (x : ReadBack). x.packets) p;
          numbers = ap (λ (x : ReadBack). x.numbers) p;
        }

    only : known sys ≡ true → length area ≡ area_size (system sys) → (o : Outcome) → reading sys area (length sheet) ≡ o
        → r.number ≡ (read_back_of sys found o).number → r.number ≡ 0
        → (k : ℕ) × (ps : List Packet) × Comes sys area k ps × (length (sheet_of sys ps) ≤ length sheet)
    only k l (refused m i) q p n = let h = reading-refused sys area (length sheet) m i q in absurd (omega arith)
    only k l (listed ps) q p n =
        let w = accepted-only sys k area l b (length sheet) ps q in
        (w.0, ps, w.1, w.2)

-- the sheet that is read has room in its buffer
pub read-within : (sys : ℕ) (area sheet : List ℕ) (r : ReadBack) (after : List ℕ) → Reads sys area sheet r after → r.numbers ≤ length sheet
unfolding read reading
read-within sys area sheet r after d =
    subst (λ (x : ReadBack). x.numbers ≤ length sheet) (sym d.answer) (within (reading sys area (length sheet)) refl)
  where
    y : System
    y = system sys

    ub : List ℕ
    ub = user_bytes_in y area

    passed : (n : ℕ) (t : Bool) (o : Outcome) (ps : List Packet) → unless n t o ≡ listed ps → o ≡ listed ps
    passed n true o ps e = e
    passed n false o ps e = never (cc)

    fitted : (qs ps : List Packet) (t : Bool) → leb (length (sheet_of sys qs)) (length sheet) ≡ t → unless 17 t (listed qs) ≡ listed ps
        → length (sheet_of sys ps) ≤ length sheet
    fitted qs ps true q e =
        let p : qs ≡ ps = cc in
        subst (λ (rs : List Packet). length (sheet_of sys rs) ≤ length sheet) p (leb-true (length (sheet_of sys qs)) (length sheet) q)
    fitted qs ps false q e = never (cc)

    users : (o : Outcome) (ps : List Packet)
        → and_then o (λ (qs : List Packet). unless 17 (leb (length (sheet_of sys qs)) (length sheet)) (listed qs)) ≡ listed ps
        → length (sheet_of sys ps) ≤ length sheet
    users (refused n i) ps e = never (cc)
    users (listed qs) ps e = fitted qs ps (leb (length (sheet_of sys qs)) (length sheet)) refl e

    within : (o : Outcome) → reading sys area (length sheet) ≡ o → (read_back_of sys (packing_found ub) o).numbers ≤ length sheet
    within (refused n i) e = omega arith
    within (listed ps) e =
        users (packets_of_user_bytes y (block_sizes y) ub) ps
        (passed 4 (eqb (length area) (area_size y)) _ ps (passed 3 (known sys) _ ps e))

-- ---- there and back

-- what was laid is read: the sheet stands at the start of the buffer, number for number, and the rest of it is unchanged
pub there_and_back : (k : ℕ) (s area : List ℕ) (r : Laid) (after : List ℕ) → Lays k s area r after → r.number ≡ 0
    → (sheet : List ℕ) (b : ReadBack) (out : List ℕ) → Reads (system_in s) after sheet b out → length s ≤ length sheet
    → (b.number ≡ 0) × (b.numbers ≡ length s) × (out ≡ s ++ drop (length s) sheet)
there_and_back k s area r after v n sheet b out w h =
    let o = v.demand2.only n in
    let sys : ℕ = o.0 in
    let ps : List Packet = o.1 in
    let a = o.2 in
    let f = facts-of sys a.sheet.known in
    let y : system_in s ≡ sys = ap system_in a.sheet.whole ∙ system-back sys ps in
    let g = v.demand2.laid sys ps a o.3 in
    let c : Comes sys after k ps =
    subst (Gives (system sys) (block_sizes (system sys)) k ps) (sym g.users)
    (written-gives (system sys) f.last (block_sizes (system sys)) f.packs f.roomy f.whole k ps
    a.packing a.sheet.sound a.sheet.few o.3) in
    let w2 : Reads sys after sheet b out = subst (λ (z : ℕ). Reads z after sheet b out) y w in
    let l : length (sheet_of sys ps) ≤ length sheet = subst (λ (t : List ℕ). length t ≤ length sheet) a.sheet.whole h in
    let e = (w2.demand3 a.sheet.known (g.length ∙ a.own)).accepts k ps c l in (
      ap (λ (x : ReadBack). x.number) e.0,
      ap (λ (x : ReadBack). x.numbers) e.0 ∙ ap length (sym a.sheet.whole),
      e.1 ∙ ap (λ (t : List ℕ). t ++ drop (length t) sheet) (sym a.sheet.whole),
    )

-- ---- picture lines (document 02, A3)

-- what is laid has no packet on a picture line, nor where signals are switched
pub laid-on-lines : (k : ℕ) (s area : List ℕ) (r : Laid) (after : List ℕ) → Lays k s area r after → r.number ≡ 0
    → (sys : ℕ) × (ps : List Packet) × SheetOf sys ps s × All (OnAllowed (system sys)) ps
laid-on-lines k s area r after v n =
    let o = v.demand2.only n in
    (o.0, o.1, o.2.sheet, sound-lines (system o.0) o.1 o.2.sheet.sound)

-- nor has what is read
pub read-on-lines : (sys : ℕ) (area sheet : List ℕ) (r : ReadBack) (after : List ℕ) → known sys ≡ true → length area ≡ area_size (system sys)
    → Reads sys area sheet r after → r.number ≡ 0
    → (ps : List Packet) × (after ≡ buffer_of sys sheet (listed ps)) × All (OnAllowed (system sys)) ps
read-on-lines sys area sheet r after kn l v n =
    let d = v.demand3 kn l in
    let o = d.only n in
    let g = o.2 in (
      o.1,
      (d.accepts o.0 o.1 g o.3).1,
      subst (All (OnAllowed (system sys))) g.packets (good-lines (system sys) g.items g.good),
    )

-- ---- fill

-- no sound packet is cut by fill: whatever its last bytes are, a string with less fill behind it than the last pack holds is read whole
pub no-packet-cut : (y : System) → y.last < 2047 → (room left : ℕ) (xs : List Item) (n : ℕ) → All (Good y) xs → length xs ≤ left → n < room
    → packets_in (string_row y room) left 0 (string xs ++ fill n) ≡ listed (packets_of xs)
no-packet-cut y hm room left xs n g few h = string-read y hm room left 0 xs (fill n) g few (fill-ends room n h)

-- a string's last byte is its last packet's CS byte
last_byte : (xs : List Item) (x : Item) → (s : List ℕ) × (string (xs ++ x ∷ []) ≡ s ++ (check_of x.packet % 256 ∷ []))
unfolding danc
last_byte xs x =
    let cs : List ℕ = check_of x.packet % 256 ∷ [] in
    (string xs ++ (header x ++ body x.packet), joined-append danc xs (x ∷ []) ∙ simp (append-nil, append_assoc))

-- the second act: a string whose last byte, a CS byte, is FFh, with fill behind it, still has its last packet
pub second-act : (y : System) → y.last < 2047 → (room left : ℕ) (xs : List Item) (x : Item) (n : ℕ) → All (Good y) (xs ++ x ∷ [])
    → length (xs ++ x ∷ []) ≤ left → n < room → check_of x.packet % 256 ≡ 0xFF
    → ((s : List ℕ) × (string (xs ++ x ∷ []) ≡ s ++ fill 1))
    × (packets_in (string_row y room) left 0 (string (xs ++ x ∷ []) ++ fill n) ≡ listed (packets_of (xs ++ x ∷ [])))
second-act y hm room left xs x n g few h e =
    let w = last_byte xs x in
    ((w.0, w.1 ∙ ap (λ (b : ℕ). w.0 ++ (b ∷ [])) e), no-packet-cut y hm room left (xs ++ x ∷ []) n g few h)
