-- The packs of one packet: 14, and its bytes moved down (001, 4.1.1, figures 4 and 7; document 01, refusal 14).
--
-- In order: carriers in front; where the packs of a packet end; carriers opened; a packet opened.
-- Assumes nothing.
use Prim.Native.Nat.{ℕ, zero, suc, ◌+◌, ◌-◌, ◌*◌, ◌/◌, ◌≤◌, ◌<◌}
use mathlib.Core.Path.{◌≡◌, refl, sym, ap, ◌∙◌, subst}
use mathlib.Core.Bool.{Bool, true, false, cond, ◌&&◌}
use mathlib.Core.List.{List, [], ◌∷◌, ◌++◌, append-nil, append_assoc}
use native.Mathlib.Omega.{arith}
use lib.Dec.{eqb, ltb}
use lib.ListN.{length, get_or, take, drop, length-append}
use lib.Seq.{length-take-le, take-length, sets, length-sets, sets-eq}
use borrow.Rule.Slice.PartMut.{put_mid, Post-is}
use borrow.Author.Tests.{ltb-true, ltb-false, eq-eqb, eqb-true, eqb-false, ne_eqb}
use Rattle.rules.specs.Base.{all_is}
use Rattle.rules.specs.Packing1.{Five, carriers_for}
use Rattle.rules.specs.Reading.{lead, carried, front_bytes, carriers_fit, in_order}
use Rattle.rules.proofs.Basics.{never, both, second-false, sets-front, sets_behind}
use Rattle.rules.proofs.Packs.{lead-within}
use Rattle.rules.specs.declared.Refusal.{Refusal}
use Rattle.rules.specs.declared.Refusal.TheVariants.{Packs}
use Rattle.unpacking1.specs.Open.{packs_at, Within, SameOrder, fits, EndsAt, all_carriers, Moved, CarriersOpened}
use Rattle.unpacking1.specs.Open.{order_first, MovedTo, NotMoved}
use Rattle.unpacking1.proofs.Packs.{kept-later, kept_at, kept-packs, window-part, pack_at, packs-cons, packs-none, packs-drop, packs-take}
use Rattle.unpacking1.proofs.Packs.{packs-length, first-pack, behind-first}
use Rattle.unpacking1.proofs.Order.{passed-more, order-alone, order-packet}

-- ---- carriers in front

-- no carrier stands behind the carriers in front
lead-then : (ps : List Five) → lead (drop (lead ps) ps) ≡ 0
lead-then [] = refl
lead-then (p ∷ ps) = go (lead-then ps) (eqb p.b0 0xE2) refl
  where
    go : lead (drop (lead ps) ps) ≡ 0 → (t : Bool) → eqb p.b0 0xE2 ≡ t → lead (drop (cond t (suc (lead ps)) 0) (p ∷ ps)) ≡ 0
    go h true e = h
    go h false e = rw e

-- there are n where the first n packs are carriers and the next is none
lead_is : (n : ℕ) (ps : List Five) → n ≤ length ps → all_carriers (take n ps) ≡ true → lead (drop n ps) ≡ 0 → lead ps ≡ n
lead_is zero ps h a e = e
lead_is (suc n) [] h a e = absurd (omega arith)
lead_is (suc n) (p ∷ ps) h a e =
    let w = both (eqb p.b0 0xE2) (all_carriers (take n ps)) a in
    rw w.0 (ap suc (lead_is n ps (omega arith) w.1 e))

-- and there are not n where one of the first n packs is none
lead-not : (n : ℕ) (ps : List Five) → all_carriers (take n ps) ≡ false → lead ps ≡ n → ⊥
lead-not zero ps a e = never (cc)
lead-not (suc n) [] a e = never (cc)
lead-not (suc n) (p ∷ ps) a e = go (λ b. lead-not n ps b) (eqb p.b0 0xE2) a e
  where
    go : (all_carriers (take n ps) ≡ false → lead ps ≡ n → ⊥) → (t : Bool) → (t && all_carriers (take n ps)) ≡ false
        → cond t (suc (lead ps)) 0 ≡ suc n → ⊥
    go h true a e = h a (omega arith)
    go h false a e = omega arith

-- four bytes in each carrier
pub carried-length : (ps : List Five) → length (carried ps) ≡ 4 * length ps
carried-length [] = refl
carried-length (p ∷ ps) = let k = carried-length ps in omega arith

-- whether a carrier stands at a place
module _ {us : List ℕ} {at end : ℕ} (w : Within us at end) (h : at < end) where
  -- none does
  pub lead-none : (get_or us at 0 ≡ 0xE2 → ⊥) → lead (packs_at us at end) ≡ 0
  lead-none n = rw (first-pack w h, ne_eqb (get_or us at 0) 0xE2 n)

  -- one does
  pub lead-some : get_or us at 0 ≡ 0xE2 → lead (packs_at us at end) ≡ 0 → ⊥
  lead-some e z =
      let k : lead (packs_at us at end) ≡ suc (lead (packs_at us (at + 5) end)) = rw (first-pack w h, e) refl in
      omega arith

-- ---- where the packs of a packet end

-- a starter with fewer carriers than its DC needs, or with more
fit-not : (p q : Five) (qs : List Five) → (lead (q ∷ qs) ≡ carriers_for q.b3 → ⊥)
    → carriers_fit (lead (q ∷ qs)) (front_bytes (p ∷ q ∷ qs)) ≡ false
fit-not p q qs n = go (eqb q.b0 0xE2) n
  where
    go : (t : Bool) → (cond t (suc (lead qs)) 0 ≡ carriers_for q.b3 → ⊥)
        → carriers_fit (cond t (suc (lead qs)) 0) (p.b2 ∷ p.b3 ∷ p.b4 ∷ carried (take (cond t (suc (lead qs)) 0) (q ∷ qs))) ≡ false
    go true n = rw (ne_eqb (suc (lead qs)) (carriers_for q.b3) n)
    go false n = refl

-- a law for each way through `packs_end`
module _ {us : List ℕ} {at total : ℕ} (w : Within us at total) where
  -- the pack is no starter
  pub no-starter : at < total → (get_or us at 0 ≡ 0xE1 → ⊥) → fits (packs_at us at total) ≡ false
  no-starter h n = rw (first-pack w h, ne_eqb (get_or us at 0) 0xE1 n)

  -- no pack is behind it
  pub no-carrier : at < total → total < at + 10 → fits (packs_at us at total) ≡ false
  no-carrier h l =
      let m = w.whole in
      let last : packs_at us (at + 5) total ≡ [] = packs-none us (at + 5) total (omega arith) in
      rw (first-pack w h, last) (second-false (eqb (get_or us at 0) 0xE1) false refl)

  -- there is, with DC in it: d
  module _ {d : ℕ} (e : d ≡ get_or us (at + 8) 0) (h : at + 10 ≤ total) where
    -- where the carriers end that DC needs
    abbrev stop : ℕ
    stop = at + 10 + (d + 3) / 4 * 5

    -- the packs behind the starter
    abbrev behind : List Five
    behind = packs_at us (at + 5) total

    -- they are whole
    within-behind : Within us (at + 5) total
    within-behind = behind-first w (omega arith)

    -- other than as many carriers as DC needs
    not-as-many : (lead behind ≡ carriers_for d → ⊥) → fits (packs_at us at total) ≡ false
    not-as-many n =
        let i : at + 5 + 3 ≡ at + 8 = omega arith in
        let k : d ≡ get_or us (at + 5 + 3) 0 = e ∙ ap (λ (j : ℕ). get_or us j 0) (sym i) in
        let c = first-pack within-behind (omega arith) in
        rw (first-pack w (omega arith), c)
        (second-false (eqb (get_or us at 0) 0xE1) _
        (fit-not (pack_at us at) (pack_at us (at + 5)) (packs_at us (at + 5 + 5) total)
        (λ z. n (ap lead c ∙ z ∙ ap carriers_for (sym k)))))

    -- there is no room for as many
    pub too_few : total < stop → fits (packs_at us at total) ≡ false
    too_few l =
        let k = packs-length within-behind in
        not-as-many (λ z. let v = lead-within behind in omega arith)

    -- the carriers that DC needs have room
    module _ (l : stop ≤ total) where
      -- the packs from there on are whole
      within-stop : Within us stop total
      within-stop = let m = w.whole in record { reach = l; all = w.all; whole = omega arith }

      -- what stands behind them
      behind-carriers : drop (carriers_for d) behind ≡ packs_at us stop total
      behind-carriers =
          let k : at + 5 + 5 * carriers_for d ≡ stop = omega arith in
          packs-drop (carriers_for d) us (at + 5) total (omega arith) w.all ∙ ap (λ (a : ℕ). packs_at us a total) k

      -- one more carrier stands there
      pub too_many : stop < total → get_or us stop 0 ≡ 0xE2 → fits (packs_at us at total) ≡ false
      too_many m t =
          not-as-many
          (λ z. lead-some within-stop m t
          (ap lead (sym behind-carriers ∙ ap (λ (n : ℕ). drop n behind) (sym z)) ∙ lead-then behind))

      -- a starter, and no carrier behind them
      module _ (s : get_or us at 0 ≡ 0xE1) where
        -- the packet's packs end there
        ends_at : lead (packs_at us stop total) ≡ 0 → EndsAt us at total stop
        ends_at b =
            record { starts = s; place = ap (λ (v : ℕ). at + 10 + (v + 3) / 4 * 5) e; within = l; ends = b }

        -- another pack stands there
        pub ends-before : stop < total → (get_or us stop 0 ≡ 0xE2 → ⊥) → EndsAt us at total stop
        ends-before m n = ends_at (lead-none within-stop m n)

        -- no pack stands there
        pub ends_last : total ≤ stop → EndsAt us at total stop
        ends_last m = ends_at (ap lead (packs-none us stop total m))

-- ---- carriers opened

-- a part of the bytes stored is what its bytes stored one by one are
stored : (us part : List ℕ) (at end : ℕ) → end ≡ at + length part → end ≤ length us → put_mid at (end - at) us part ≡ sets us at part
stored us part at end e h =
    ap (λ (s : List ℕ). take at us ++ (part ++ s)) (Post-is at end us (omega arith))
    ∙ sym (append_assoc (take at us) part (drop end us))
    ∙ ap (λ (i : ℕ). (take at us ++ part) ++ drop i us) e
    ∙ sym (sets-eq part us at (omega arith))

-- what holds when the carriers before f were opened, to before o
pub record Carrying (before us : List ℕ) (from stop to f o : ℕ) : Type 0 where
  pub start : to ≤ o
  pub low : o ≤ f
  pub packs : Within us f stop
  pub long : length us ≡ length before
  pub kept : drop f us ≡ drop f before
  pub laid : take o us ++ carried (packs_at us f stop) ≡ take to before ++ carried (packs_at before from stop)
  pub all : all_carriers (packs_at us f stop) ≡ all_carriers (packs_at before from stop)
  pub first : from < f → get_or before from 0 ≡ 0xE2
  pub same : (total : ℕ) → Within before from total → stop ≤ total → SameOrder before from total f
  pub reach : from ≤ f

-- the bytes that the pack at a place carries
abbrev four_at : List ℕ → ℕ → List ℕ
four_at us f = get_or us (f + 1) 0 ∷ get_or us (f + 2) 0 ∷ get_or us (f + 3) 0 ∷ get_or us (f + 4) 0 ∷ []

-- a turn of the loop, and its end
module _ {before us : List ℕ} {from stop to f o : ℕ} (v : Carrying before us from stop to f o) where
  -- a pack is left
  module _ (goes : f < stop) where
    -- the carrier, and the packs behind it
    front-is : packs_at us f stop ≡ pack_at us f ∷ packs_at us (f + 5) stop
    front-is = first-pack v.packs goes

    -- the bytes with its four stored at o
    abbrev next : List ℕ
    next = sets us o (four_at us f)

    -- as many as before
    next-long : length next ≡ length us
    next-long = length-sets us o (four_at us f)

    -- the packs behind it are as they were
    rest-kept : packs_at next (f + 5) stop ≡ packs_at us (f + 5) stop
    rest-kept =
        let l = v.low in
        kept-packs next us (f + 5) (sets_behind us o (four_at us f) (f + 5) (omega arith)) (f + 5) stop (omega arith)

    -- the byte that says what it is stood there before
    head-kept : get_or us f 0 ≡ get_or before f 0
    head-kept = kept_at us before f v.kept

    -- it is the first, or another was
    first_more : get_or us f 0 ≡ 0xE2 → get_or before from 0 ≡ 0xE2
    first_more e = go (ltb from f) refl
      where
        go : (t : Bool) → ltb from f ≡ t → get_or before from 0 ≡ 0xE2
        go true l = v.first (ltb-true from f l)
        go false l =
            let b = ltb-false from f l in
            let c = v.reach in
            let k : from ≡ f = omega arith in
            ap (λ (i : ℕ). get_or before i 0) k ∙ sym head-kept ∙ e

    -- so one carrier more is opened
    four-more : get_or us f 0 ≡ 0xE2 → Carrying before next from stop to (f + 5) (o + 4)
    four-more e =
        let a = v.start in
        let l = v.low in
        let b = behind-first v.packs goes in
        let r = b.reach in
        let i = b.all in
        let n = next-long in
        let s = sets-front us o (four_at us f) (omega arith) in
        record {
          start = omega arith;
          low = omega arith;
          packs = record { reach = r; all = omega arith; whole = b.whole };
          long = n ∙ v.long;
          kept = sets_behind us o (four_at us f) (f + 5) (omega arith) ∙ kept-later us before f v.kept (f + 5) (omega arith);
          laid = rw (s, rest-kept, append_assoc (take o us) (four_at us f) (carried (packs_at us (f + 5) stop))) (rw front-is at v.laid);
          all = rw rest-kept (rw (front-is, e) at v.all);
          first = λ x. first_more e;
          same = λ total x y. passed-more (v.same total x y) (omega arith) (sym head-kept ∙ e);
          reach = let c = v.reach in omega arith;
        }

    -- one carrier more, its four bytes stored as one part
    pub carry-more : {four : List ℕ} → four ≡ four_at us f → get_or us f 0 ≡ 0xE2
        → Carrying before (put_mid o (o + 4 - o) us four) from stop to (f + 5) (o + 4)
    carry-more {four} q e =
        let l = v.low in
        let i = (behind-first v.packs goes).all in
        let r = (behind-first v.packs goes).reach in
        let s : put_mid o (o + 4 - o) us four ≡ next =
        ap (put_mid o (o + 4 - o) us) q ∙ stored us (four_at us f) o (o + 4) refl (omega arith) in
        subst (λ (x : List ℕ). Carrying before x from stop to (f + 5) (o + 4)) (sym s) (four-more e)

    -- a pack that is no carrier
    pub carry-wrong : (get_or us f 0 ≡ 0xE2 → ⊥) → CarriersOpened before us from stop to f
    carry-wrong n =
        let k : all_carriers (packs_at us f stop) ≡ false = rw (front-is, ne_eqb (get_or us f 0) 0xE2 n) in
        record {
          within = omega arith;
          all = λ z. absurd (omega arith);
          other = λ z. sym v.all ∙ k;
          first = v.first;
          here = λ z e. n (head-kept ∙ e);
          same = v.same;
          kept = v.kept;
          moved = λ z. absurd (omega arith);
        }

  -- all of them
  module _ (done : stop ≤ f) where
    -- nothing is left to be stored
    all_laid : take o us ≡ take to before ++ carried (packs_at before from stop)
    all_laid = sym (append-nil (take o us)) ∙ (rw (packs-none us f stop done) at v.laid)

    -- so all was moved
    pub carry-done : CarriersOpened before us from stop to f
    carry-done =
        let s = v.start in
        let a = v.low in
        let b = v.packs.reach in
        let i = v.packs.all in
        let c = v.long in
        let x : length (take o us) ≡ o = length-take-le o us (omega arith) in
        let y : length (take to before) ≡ to = length-take-le to before (omega arith) in
        let l = length-append (take to before) (carried (packs_at before from stop)) in
        let m : o ≡ to + length (carried (packs_at before from stop)) = let n = ap length all_laid in omega arith in
        record {
          within = b;
          all = λ z. sym v.all ∙ ap all_carriers (packs-none us f stop done);
          other = λ z. absurd (omega arith);
          first = v.first;
          here = λ z. absurd (omega arith);
          same = v.same;
          kept = v.kept;
          moved =
              λ z. record {
                laid = ap (λ (n : ℕ). take n us) (sym m) ∙ all_laid;
                kept = kept-later us before f v.kept stop (omega arith);
              };
        }

-- ---- a packet opened

-- the header bytes in the starter at a place
abbrev head_at : List ℕ → ℕ → List ℕ
head_at us at = get_or us (at + 2) 0 ∷ get_or us (at + 3) 0 ∷ get_or us (at + 4) 0 ∷ []

-- the bytes after a header was stored
abbrev pub headed : List ℕ → List ℕ → ℕ → List ℕ
headed us header to = put_mid to (to + 3 - to) us header

module _ (us : List ℕ) {header : List ℕ} (at to : ℕ) (q : header ≡ head_at us at) (room : to + 3 ≤ length us) where
  -- that of the packet, byte by byte
  headed-is : headed us header to ≡ sets us to (head_at us at)
  headed-is = ap (put_mid to (to + 3 - to) us) q ∙ stored us (head_at us at) to (to + 3) refl room

  -- as many bytes as before
  headed-length : length (headed us header to) ≡ length us
  headed-length = ap length headed-is ∙ length-sets us to (head_at us at)

  -- the header bytes stand at their place
  headed-front : take (to + 3) (headed us header to) ≡ take to us ++ head_at us at
  headed-front = ap (take (to + 3)) headed-is ∙ sets-front us to (head_at us at) room

  -- and nothing behind them has changed
  headed-behind : (n : ℕ) → to + 3 ≤ n → drop n (headed us header to) ≡ drop n us
  headed-behind n h = ap (drop n) headed-is ∙ sets_behind us to (head_at us at) n h

-- 14 of a packet that has its carriers
fits-is : (p : Five) (ps : List Five) (f : List ℕ) (d : ℕ) → p.b0 ≡ 0xE1 → front_bytes (p ∷ ps) ≡ f → get_or f 5 0 ≡ d → lead ps ≡ carriers_for d
    → fits (p ∷ ps) ≡ all_is 0xFF (drop (d + 7) f)
fits-is p ps f d b e k l = rw (b, e, k, l, eq-eqb (carriers_for d) (carriers_for d) refl)

-- its packs end at `stop`
module _ {us : List ℕ} {at total stop : ℕ} (w : Within us at total) (e : EndsAt us at total stop) where
  -- DC
  abbrev dc : ℕ
  dc = get_or us (at + 8) 0

  -- the carriers that it needs
  abbrev need : ℕ
  need = carriers_for dc

  -- the packs behind the starter
  abbrev ps : List Five
  ps = packs_at us (at + 5) total

  -- those of them that are to be carriers
  abbrev cs : List Five
  cs = packs_at us (at + 5) stop

  -- where the packs end, by DC
  pub stop_is : stop ≡ at + 5 + 5 * need
  stop_is = let p = e.place in omega arith

  -- that is within the bytes
  pub stop-within : stop ≤ length us
  stop-within = let i = e.within in let a = w.all in omega arith

  -- the packs behind the starter are whole
  within-ps : Within us (at + 5) total
  within-ps = let p = stop_is in let i = e.within in behind-first w (omega arith)

  -- and so are those to be carriers
  within-cs : Within us (at + 5) stop
  within-cs = let p = stop_is in record { reach = omega arith; all = stop-within; whole = omega arith }

  -- which are as many as DC needs
  cs-length : length cs ≡ need
  cs-length = let p = stop_is in let k = packs-length within-cs in omega arith

  -- the first of the packs behind the starter
  take-is : take need ps ≡ cs
  take-is =
      let p = stop_is in
      let i = e.within in
      packs-take need us (at + 5) total (omega arith) w.all ∙ ap (packs_at us (at + 5)) (sym p)

  -- and the packs behind them
  drop-is : drop need ps ≡ packs_at us stop total
  drop-is =
      let p = stop_is in
      let i = e.within in
      packs-drop need us (at + 5) total (omega arith) w.all ∙ ap (λ (a : ℕ). packs_at us a total) (sym p)

  -- the starter and the packs behind it
  starter-is : packs_at us at total ≡ pack_at us at ∷ ps
  starter-is = let p = stop_is in let i = e.within in packs-cons us at total (omega arith) w.all

  -- a pack between is no carrier
  carriers-shut : all_carriers cs ≡ false → fits (packs_at us at total) ≡ false
  carriers-shut f =
      let p = stop_is in
      let i = e.within in
      not-as-many w refl (omega arith) (lead-not need ps (ap all_carriers take-is ∙ f))

  -- header bytes and what the carriers carry
  abbrev front : List ℕ
  front = get_or us (at + 2) 0 ∷ get_or us (at + 3) 0 ∷ get_or us (at + 4) 0 ∷ carried cs

  -- how many bytes these are
  front_length : length front ≡ 3 + 4 * need
  front_length = let k = carried-length cs in let l = cs-length in omega arith

  -- DC is the sixth of them
  dc-is : get_or front 5 0 ≡ dc
  dc-is =
      let p = stop_is in
      let k : at + 5 + 3 ≡ at + 8 = omega arith in
      rw (first-pack within-cs (omega arith)) (ap (λ (j : ℕ). get_or us j 0) k)

  -- all between are carriers: these bytes are the packet's, and what is left of 14 is the test of the unused ones
  module _ (a : all_carriers cs ≡ true) where
    -- the carriers are as many as DC needs
    many : lead ps ≡ need
    many =
        let p = stop_is in
        let i = e.within in
        let k = packs-length within-ps in
        lead_is need ps (omega arith) (ap all_carriers take-is ∙ a) (ap lead drop-is ∙ e.ends)

    -- so the bytes are the packet's
    front_bytes_lem : front_bytes (packs_at us at total) ≡ front
    front_bytes_lem =
        ap front_bytes starter-is
        ∙ ap (λ (s : List Five). get_or us (at + 2) 0 ∷ get_or us (at + 3) 0 ∷ get_or us (at + 4) 0 ∷ carried s)
        (ap (λ (k : ℕ). take k ps) many ∙ take-is)

    -- and 14 is the test of those past its end
    fits-front : fits (packs_at us at total) ≡ all_is 0xFF (drop (dc + 7) front)
    fits-front = ap fits starter-is ∙ fits-is (pack_at us at) ps front dc (e.starts) (ap front_bytes (sym starter-is) ∙ front_bytes_lem) dc-is many

  -- the header bytes were stored
  module _ {to : ℕ} (low : to ≤ at) {header : List ℕ} (stores : header ≡ head_at us at) where
    -- where there is room for them
    room : to + 3 ≤ length us
    room = let p = stop_is in let i = stop-within in omega arith

    -- and are as they were
    cs-kept : packs_at (headed us header to) (at + 5) stop ≡ cs
    cs-kept = kept-packs (headed us header to) us (at + 5) (headed-behind us at to stores room (at + 5) (omega arith)) (at + 5) stop (omega arith)

    -- all packs behind the starter are whole, with the header bytes stored
    within-headed : Within (headed us header to) (at + 5) total
    within-headed =
        let l = headed-length us at to stores room in
        let c = within-ps in
        let a = c.all in
        record { reach = c.reach; all = omega arith; whole = c.whole }

    -- and are as they were
    head-behind : drop (at + 5) (headed us header to) ≡ drop (at + 5) us
    head-behind = headed-behind us at to stores room (at + 5) (omega arith)

    -- and the carriers were opened
    module _ {after : List ℕ} {r : ℕ} (v : CarriersOpened (headed us header to) after (at + 5) stop (to + 3) r) where
      -- the order of the packs behind the starter is that of those from r on
      same-headed : SameOrder (headed us header to) (at + 5) total r
      same-headed = v.same total within-headed e.within

      same-us : SameOrder us (at + 5) total r
      same-us =
          let h = same-headed in
          let w = h.packs in
          let a = w.all in
          let l = headed-length us at to stores room in
          let k = kept-packs (headed us header to) us (at + 5) head-behind in
          record {
            reach = h.reach;
            packs = record { reach = w.reach; all = omega arith; whole = w.whole };
            same =
                ap (in_order false) (sym (k r total h.reach)) ∙ h.same
                ∙ ap (in_order false) (k (at + 5) total (omega arith));
          }

      -- these are as they were
      rest-there : packs_at after r total ≡ packs_at us r total
      rest-there =
          kept-packs after (headed us header to) r v.kept r total (omega arith)
          ∙ kept-packs (headed us header to) us (at + 5) head-behind r total same-us.reach

      -- a pack stands behind the starter
      second-there : at + 5 < total
      second-there = let p = stop_is in let i = e.within in omega arith

      -- behind a carrier their order is that of all packs from the packet on
      rest-order : at + 5 < r → in_order false (packs_at after r total) ≡ in_order false (packs_at us at total)
      rest-order h =
          let c : get_or us (at + 5) 0 ≡ 0xE2 = sym (kept_at (headed us header to) us (at + 5) head-behind) ∙ v.first h in
          ap (in_order false) rest-there ∙ order-packet w second-there (e.starts) c same-us

      -- one is no carrier: what `carriers_refusal` says
      pub opened-shut : {q : Refusal} → (r ≡ stop → ⊥) → q ≡ cond (eqb r (at + 5)) Packs (order_first (in_order false (packs_at after r total)))
          → NotMoved us at total q
      opened-shut {q} n f = record { shut = shut; order = f ∙ go (eqb r (at + 5)) refl }
        where
          less : r < stop
          less = let i = v.within in omega arith

          shut : fits (packs_at us at total) ≡ false
          shut = carriers-shut (ap all_carriers (sym cs-kept) ∙ v.other less)

          go : (t : Bool) → eqb r (at + 5) ≡ t
              → cond t Packs (order_first (in_order false (packs_at after r total))) ≡ order_first (in_order false (packs_at us at total))
          go true b =
              let k : r ≡ at + 5 = eqb-true r (at + 5) b in
              let no : get_or us (at + 5) 0 ≡ 0xE2 → ⊥ =
              λ c. v.here less
              (ap (λ (i : ℕ). get_or (headed us header to) i 0) k ∙ kept_at (headed us header to) us (at + 5) head-behind ∙ c) in
              sym (ap order_first (order-alone w second-there e.starts no))
          go false b =
              let k = eqb-false r (at + 5) b in
              let h : at + 5 < r = let a = same-us.reach in omega arith in
              ap order_first (rest-order h)

      -- all are
      module _ (y : r ≡ stop) where
        -- so one at least was passed
        passed : at + 5 < r
        passed = let p = stop_is in omega arith

        -- all are carriers
        all_are : all_carriers cs ≡ true
        all_are = ap all_carriers (sym cs-kept) ∙ v.all y

        -- so the bytes were moved
        opened-moved : Moved us after to front stop
        opened-moved =
            let p = stop_is in
            let i = stop-within in
            let k = carried-length cs in
            let m = v.moved y in
            let j = ap (λ (s : List Five). length (carried s)) cs-kept in
            let q : to + length front ≡ to + 3 + length (carried (packs_at (headed us header to) (at + 5) stop)) = omega arith in
            record {
              laid =
                  ap (λ (n : ℕ). take n after) q ∙ m.laid
                  ∙ ap (λ (s : List Five). take (to + 3) (headed us header to) ++ carried s) cs-kept
                  ∙ ap (λ (s : List ℕ). s ++ carried cs) (headed-front us at to stores room)
                  ∙ append_assoc (take to us) (head_at us at) (carried cs);
              kept = m.kept ∙ headed-behind us at to stores room stop (omega arith);
            }

        -- d is DC as it was read
        module _ {d : ℕ} (q : d ≡ dc) where
          -- the bytes that are tested
          abbrev unused : List ℕ
          unused = take (to + (d + 3) / 4 * 4 + 7 - (to + d + 7)) (drop (to + d + 7) after)

          -- these are the unused ones
          unused-is : unused ≡ drop (dc + 7) front
          unused-is =
              let i = stop-within in
              let p = stop_is in
              let l = front_length in
              let t : length (take to us) ≡ to = length-take-le to us (omega arith) in
              let k : to + (d + 3) / 4 * 4 + 7 - (to + d + 7) ≡ length front - (dc + 7) = omega arith in
              let m : to + d + 7 ≡ to + (dc + 7) = omega arith in
              rw (k, m)
              (window-part after (take to us) front to t opened-moved.laid (dc + 7) (length front) (omega arith)
              ∙ ap (drop (dc + 7)) (take-length front))

          -- so their test is 14
          fits-unused : fits (packs_at us at total) ≡ all_is 0xFF unused
          fits-unused = fits-front (all_are) ∙ ap (all_is 0xFF) (sym unused-is)

          -- 14: one of them is not FFh
          pub packet-shut : {q : Refusal} → all_is 0xFF unused ≡ false → q ≡ order_first (in_order false (packs_at after stop total))
              → NotMoved us at total q
          packet-shut f g =
              let k = ap (λ (i : ℕ). in_order false (packs_at after i total)) (sym y) ∙ rest-order passed in
              record { shut = fits-unused ∙ f; order = g ∙ ap order_first k }

          -- all are FFh, and the packet is moved
          pub packet-opened : all_is 0xFF unused ≡ true → MovedTo us after at total to stop
          packet-opened f =
              let g = front_bytes_lem all_are in
              let m = opened-moved in
              let k = sym (ap (in_order false) rest-there) ∙ rest-order passed in
              record {
                passes = fits-unused ∙ f;
                place = e.place ∙ ap (λ (k : ℕ). at + 10 + (k + 3) / 4 * 5) (sym (ap (λ (s : List ℕ). get_or s 5 0) g ∙ dc-is));
                within = e.within;
                same = ap (λ (i : ℕ). in_order false (packs_at us i total)) (sym y) ∙ k;
                moved = rw g m;
              }
