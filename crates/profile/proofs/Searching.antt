-- What each way through the search says of the rules, over plain values; and whether a list is asked for.
--
-- In order: the search; whether a list is asked for.
-- Assumes nothing.
use Prim.Native.Nat.{ℕ, suc, ◌+◌, ◌≤◌, ◌<◌}
use mathlib.Core.Path.{◌≡◌, refl, sym, ap, ap₂, ◌∙◌}
use mathlib.Core.Bool.{Bool, true, false, cond}
use mathlib.Core.List.{List, [], ◌∷◌, ◌++◌}
use native.Mathlib.Omega.{arith}
use lib.Dec.{eqb}
use lib.ListN.{length, get_or, drop, length-drop}
use lib.Seq.{get_or-drop, drop-drop}
use borrow.Author.Tests.{eqb-true, eq-eqb, ne_eqb}
use Rattle.rules.specs.Base.{All, none, one}
use Rattle.std.proofs.Common.{Option, Some, None}
use Rattle.rules.specs.Systems.{System, known, system}
use Rattle.rules.specs.Packet.{Packet, words, Sound}
use Rattle.rules.specs.Sheet.{all_words}
use Rattle.rules.specs.Blocks.{area_size}
use Rattle.rules.specs.Packings.{is_packing}
use Rattle.rules.specs.Numbers.{Outcome, refused}
use Rattle.rules.specs.Laying.{low, dc_in}
use Rattle.rules.specs.Demands.{SheetOf, Tests, Asked}
use Rattle.rules.specs.declared.Tested.{Tested}
use Rattle.rules.proofs.Basics.{never}
use Rattle.rules.proofs.Words.{low_word, coded-back, rest-taken, words_long}
use Rattle.frame.specs.Systems.{figures_found}
use Rattle.frame.specs.declared.Figures.{Figures}
use Rattle.frame.proofs.Laws.{area-is, found_is, found_none}
use Rattle.profile.specs.Profile.{eight_ids, eight_bit, profiled}
use Rattle.profile.specs.Search.{Seeks, Answers}

-- ---- the search

-- the packets of a sound list that stand from a place on, the first of them number k; those in front are within the profile
pub record Left (ws : List ℕ) (at k : ℕ) (y : System) (ps : List Packet) : Type 0 where
  left : List Packet
  sound : All (Sound y) left
  words : drop at ws ≡ all_words left
  same : (o : Outcome) → profiled 0 ps o ≡ profiled k left o

abbrev pub SoFar : List ℕ → ℕ → ℕ → Type 0
SoFar ws at k = (y : System) (ps : List Packet) → All (Sound y) ps → ws ≡ all_words ps → Left ws at k y ps

pub search-begins : (ws : List ℕ) → SoFar ws 0 0
search-begins ws y ps g e = record { left = ps; sound = g; words = e; same = λ o. refl }

module _ (ws : List ℕ) (at k : ℕ) (so : SoFar ws at k) where
  module _ (h : at + 5 < length ws) (did sdid : ℕ) (d : did ≡ low (get_or ws (at + 3) 0)) (s : sdid ≡ low (get_or ws (at + 4) 0)) where
    -- the next packet, and those behind it
    record Next (y : System) (ps : List Packet) : Type 0 where
      packet : Packet
      rest : List Packet
      sound : Sound y packet
      sounds : All (Sound y) rest
      words : drop at ws ≡ words packet ++ all_words rest
      same : (o : Outcome) → profiled 0 ps o ≡ cond (eight_bit packet) (profiled (suc k) rest o) (refused 29 k)

    next : (y : System) (ps : List Packet) → All (Sound y) ps → ws ≡ all_words ps → Next y ps
    next y ps g e = let l = so y ps g e in go l.left l.sound l.words l.same
      where
        go : (left : List Packet) → All (Sound y) left → drop at ws ≡ all_words left → ((o : Outcome) → profiled 0 ps o ≡ profiled k left o)
            → Next y ps
        go [] none w q = let l = length-drop at ws in let z : length (drop at ws) ≡ 0 = ap length w in absurd (omega arith)
        go (p ∷ left) (one s ss) w q = record { packet = p; rest = left; sound = s; sounds = ss; words = w; same = q }

    -- the code has its DID and SDID
    seen : (y : System) (ps : List Packet) (n : Next y ps) → eight_ids did sdid ≡ eight_bit n.packet
    unfolding words
    seen y ps n =
        let p = n.packet in
        let r = all_words n.rest in
        let at3 : get_or ws (at + 3) 0 ≡ get_or (words p ++ r) 3 0 = sym (get_or-drop at ws 3 0) ∙ ap (λ (t : List ℕ). get_or t 3 0) n.words in
        let at4 : get_or ws (at + 4) 0 ≡ get_or (words p ++ r) 4 0 = sym (get_or-drop at ws 4 0) ∙ ap (λ (t : List ℕ). get_or t 4 0) n.words in
        let a : did ≡ p.did = d ∙ ap low at3 ∙ rw (coded-back y p r n.sound) (low_word p.did n.sound.did) in
        let b : sdid ≡ p.sdid = s ∙ ap low at4 ∙ rw (coded-back y p r n.sound) (low_word p.sdid n.sound.sdid) in
        ap₂ eight_ids a b

    -- a packet outside the profile
    pub search-stops : eight_ids did sdid ≡ false → Seeks ws (Some k)
    search-stops f =
        record {
          first = λ y ps g e o.
              let n = next y ps g e in
              let b : eight_bit n.packet ≡ false = sym (seen y ps n) ∙ f in
              n.same o ∙ ap (λ (b : Bool). cond b (profiled (suc k) n.rest o) (refused 29 k)) b;
        }

    -- and one within it
    pub search-goes-on : eight_ids did sdid ≡ true → (dc : ℕ) → dc ≡ low (get_or ws (at + 5) 0) → SoFar ws (at + (dc + 7)) (k + 1)
    search-goes-on t dc z y ps g e =
        let x = next y ps g e in
        let p = x.packet in
        let r = all_words x.rest in
        let b : eight_bit p ≡ true = sym (seen y ps x) ∙ t in
        let i : suc k ≡ k + 1 = omega arith in
        let n : dc ≡ dc_in (words p ++ r) = z ∙ ap low (sym (get_or-drop at ws 5 0)) ∙ ap dc_in x.words in
        record {
          left = x.rest;
          sound = x.sounds;
          words =
              sym (drop-drop (dc + 7) at ws)
              ∙ ap (drop (dc + 7)) x.words
              ∙ ap (λ (m : ℕ). drop (m + 7) (words p ++ r)) n
              ∙ rest-taken p r x.sound.many;
          same = λ o.
              x.same o
              ∙ ap (λ (b : Bool). cond b (profiled (suc k) x.rest o) (refused 29 k)) b
              ∙ ap (λ (m : ℕ). profiled m x.rest o) i;
        }

  -- no packet is left
  pub search-ends : length ws ≤ at + 5 → Seeks ws None
  search-ends h = record { first = λ y ps g e o. let l = so y ps g e in l.same o ∙ go l.left l.words o }
    where
      go : (left : List Packet) → drop at ws ≡ all_words left → (o : Outcome) → profiled k left o ≡ o
      go [] w o = refl
      go (p ∷ left) w o =
          let d = length-drop at ws in
          let l = words_long p (all_words left) in
          let z : length (drop at ws) ≡ length (words p ++ all_words left) = ap length w in
          absurd (omega arith)

-- ---- whether a list is asked for

pub packing-1 : (k : ℕ) → k ≡ 1 → is_packing k ≡ true
unfolding is_packing
packing-1 k e = rw (eq-eqb k 1 e)

pub packing-2 : (k : ℕ) → (k ≡ 1 → ⊥) → k ≡ 2 → is_packing k ≡ true
unfolding is_packing
packing-2 k n e = rw (ne_eqb k 1 n, eq-eqb k 2 e)

module _ (k : ℕ) (s : List ℕ) (bytes : ℕ) where
  -- 1
  pub not-packing : (k ≡ 1 → ⊥) → (k ≡ 2 → ⊥) → Answers k s bytes false
  unfolding is_packing
  not-packing a b =
      let z : is_packing k ≡ false = rw (ne_eqb k 1 a, ne_eqb k 2 b) in
      record { yes = λ e. never (cc); no = λ e area l sys ps q. let t = q.packing in never (cc) }

  module _ (t : Tested) (w : Tests s t) where
    -- 2, 3, 5 to 11, 20
    pub not-passed : (t.number ≡ 0 → ⊥) → Answers k s bytes false
    not-passed n =
        record {
          yes = λ e. never (cc);
          no = λ e area l sys ps q. n (ap (λ (x : Tested). x.number) (w.passes sys ps q.sheet));
        }

    -- a sheet that passes has a system that is known
    pub not-known : None ≡ figures_found t.system → Answers k s bytes false
    not-known f =
        record {
          yes = λ e. never (cc);
          no = λ e area l sys ps q.
              let y : t.system ≡ sys = ap (λ (x : Tested). x.system) (w.passes sys ps q.sheet) in
              let u : known sys ≡ false = ap known (sym y) ∙ found_none t.system f in
              let v = q.sheet.known in
              never (cc);
        }

    -- 4
    pub by-area : is_packing k ≡ true → t.number ≡ 0 → (g : Figures) → Some g ≡ figures_found t.system → Answers k s bytes (eqb bytes g.area)
    by-area pk z g x = record { yes = yes; no = no }
      where
        its-area : (sys : ℕ) (ps : List Packet) → SheetOf sys ps s → g.area ≡ area_size (system sys)
        its-area sys ps q =
            area-is t.system g (found_is t.system g x) ∙ ap (λ (m : ℕ). area_size (system m)) (ap (λ (v : Tested). v.system) (w.passes sys ps q))

        yes : eqb bytes g.area ≡ true → (area : List ℕ) → length area ≡ bytes → (sys : ℕ) × (ps : List Packet) × Asked k sys ps s area
        yes e area l =
            let o = w.only z in
            let own = l ∙ eqb-true bytes g.area e ∙ its-area o.0 o.1 o.2 in
            (o.0, o.1, record { packing = pk; sheet = o.2; own = own })

        no : eqb bytes g.area ≡ false → (area : List ℕ) → length area ≡ bytes → (sys : ℕ) (ps : List Packet) → Asked k sys ps s area → ⊥
        no e area l sys ps q =
            let f = eq-eqb bytes g.area (sym l ∙ q.own ∙ sym (its-area sys ps q.sheet)) in
            never (cc)
