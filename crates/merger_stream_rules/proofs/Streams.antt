-- One stream alone loses nothing but what lies halfway. Assumes nothing.
use Rattle.std.proofs.Common.{Option, Some, None}
use mathlib.Core.Path.{◌≡◌, refl, sym, subst}
use mathlib.Core.Bool.{Bool, true, cond}
use mathlib.Core.List.{List, [], ◌∷◌}
use Prim.Native.Nat.{ℕ, zero, suc, ◌+◌, ◌<◌, ◌≤◌}
use native.Mathlib.Nat.{not-suc-le-zero, le_of_suc-le-suc}
use native.Mathlib.Omega.{arith}
use lib.ListN.{length}
use borrow.Author.Tests.{lt-ltb, ltb-true}
use Rattle.bits.specs.Alls.{All}
use Rattle.bits.proofs.Conds.{cond_both}
use Rattle.merger_rules.specs.declared.Held.{Held}
use Rattle.merger_rules.specs.declared.Freed.{Freed}
use Rattle.merger_rules.specs.declared.Position.{Position}
use Rattle.merger_rules.specs.declared.Chosen.{Chosen}
use Rattle.merger_rules.specs.declared.Released.TheVariants.{Frame, PassedOver}
use Rattle.merger_rules.specs.Merging.{View, view, is_late, home_of, order_of, insert_at, alone, PushStep, push_of, is_ready, choice_of, snapped, freed_of, ReleaseStep, release_step, released_as, settle, release_from, release_of}
use Rattle.merger_rules.specs.States.{IsNear, key_at}
use Rattle.merger_rules.specs.Scripts.{Call, started, push, release}
use Rattle.merger_rules.specs.Offsets.{Later}
use Rattle.merger_rules.specs.Counts.{one}
use Rattle.merger_stream_rules.specs.Streams.{Alone, Halfway, KeptOrHalfway, MovedLittle, Unbroken}
use Rattle.merger_rules.proofs.Contrary.{contrary}
use Rattle.merger_rules.proofs.Pushes.{push_cases, open_cases}
use Rattle.merger_rules.proofs.Inserts.{all_insert}
use Rattle.merger_rules.proofs.Snaps.{snapped_ge, snapped_half, later_after}
use Rattle.merger_rules.proofs.Sound.{key_alone}
use Rattle.merger_rules.proofs.SoundCalls.{home_near}
use Rattle.merger_stream_rules.proofs.Grid.{Gives, gives}

-- each key lies 384 or more above the one before, the first at m or above, and f lies as far above the last
abbrev Chain : ℕ → ℕ → List Position → Type 0
Chain m f [] = m ≤ f
Chain m f (p ∷ ps) = (m ≤ p.key) × Chain (p.key + 384) f ps

-- what may come next lies 192 or more above the last release
abbrev Lead : Option ℕ → ℕ → Type 0
Lead None m = Unit {0}
Lead (Some l) m = l + 192 ≤ m

-- a position gives its own key's frame
abbrev Own : Position → Type 0
Own p = Gives p.key (choice_of p)

record Lone (f : ℕ) (v : View) : Type 0 where
  from : ℕ
  own : All Own v.pending
  chain : Chain from f v.pending
  lead : Lead v.last from

-- ── the chain ──

chain_raise : (m f g : ℕ) (l : List Position) → f ≤ g → Chain m f l → Chain m g l
chain_raise m f g [] h c = let c' : m ≤ f = c in omega arith
chain_raise m f g (p ∷ ps) h c = (c.0, chain_raise (p.key + 384) f g ps h c.1)

chain_from : (m f : ℕ) (l : List Position) → Chain m f l → m ≤ f
chain_from m f [] c = c
chain_from m f (p ∷ ps) c = let a : m ≤ p.key = c.0 in let b : p.key + 384 ≤ f = chain_from (p.key + 384) f ps c.1 in omega arith

chain_at : (m f : ℕ) (l : List Position) (i : ℕ) → Chain m f l → i < length l → key_at l i + 384 ≤ f
chain_at m f [] i c h = absurd (not-suc-le-zero h)
chain_at m f (p ∷ ps) zero c h = chain_from (p.key + 384) f ps c.1
chain_at m f (p ∷ ps) (suc i) c h = chain_at (p.key + 384) f ps i c.1 (le_of_suc-le-suc h)

-- a new key goes to the end
chain_end : (m f o : ℕ) (q : Position) (l : List Position) → q.key ≡ o → f ≤ o → Chain m f l → Chain m (o + 384) (insert_at (order_of o l) q l)
unfolding order_of
chain_end m f o q [] e h c = let c' : m ≤ f = c in (omega arith, omega arith)
chain_end m f o q (p ∷ ps) e h c =
    let k : p.key + 384 ≤ f = chain_from (p.key + 384) f ps c.1 in
    subst (λ (t : Bool). Chain m (o + 384) (insert_at (cond t (suc (order_of o ps)) 0) q (p ∷ ps))) (sym (lt-ltb _ o (omega arith))) (c.0, chain_end (p.key + 384) f o q ps e h c.1)

own_alone : (s : ℕ) (h : Held) → Own (alone s h)
own_alone zero h = gives h _ refl
own_alone (suc s) h = gives h _ refl

-- ── a push ──

record Pushes (o : ℕ) (v : View) (y : PushStep) : Type 0 where
  answers : KeptOrHalfway v.last o y.answer
  lone : Lone (o + 384) y.next

halfway : (last : Option ℕ) (m o : ℕ) → Lead last m → m ≤ o → is_late last o ≡ true → Halfway last o
halfway None m o l h e = contrary cc
halfway (Some l) m o a h e = let a' : l + 192 ≤ m = a in omega (arith, ltb-true (o + 191) _ e)

push_lone : (s f : ℕ) (h : Held) (v : View) → s ≤ 1 → f ≤ h.figures.offset → Lone f v → Pushes h.figures.offset v (push_of s h v)
push_lone s f h v one w r =
    push_cases (Pushes h.figures.offset v) s h v (λ k. absurd (omega arith)) (λ _. record { answers = omega arith; lone = same })
    (λ e. record { answers = halfway v.last r.from h.figures.offset r.lead low e; lone = same })
    (λ _ i. absurd (nowhere_near (home_of h.figures.offset v.pending) i (home_near h.figures.offset v.pending i)))
    (λ _ _. open_cases (Pushes h.figures.offset v) s h v (order_of h.figures.offset v.pending) (λ _. record { answers = omega arith; lone = same })
    (λ _. record {
      answers = tt;
      lone = record {
        from = r.from;
        own = all_insert Own (order_of h.figures.offset v.pending) v.pending (alone s h) r.own (own_alone s h);
        chain = chain_end r.from f h.figures.offset (alone s h) v.pending (key_alone s h) w r.chain;
        lead = r.lead;
      };
    }))
  where
    low : r.from ≤ h.figures.offset
    low = let k : r.from ≤ f = chain_from r.from f v.pending r.chain in omega arith

    same : Lone (h.figures.offset + 384) v
    same =
        let up : f ≤ h.figures.offset + 384 = omega arith in
        record { from = r.from; own = r.own; chain = chain_raise r.from f (h.figures.offset + 384) v.pending up r.chain; lead = r.lead }

    nowhere_near : (i : ℕ) → i < length v.pending → IsNear h.figures.offset (key_at v.pending i) → ⊥
    nowhere_near i k n =
        let a : key_at v.pending i + 384 ≤ f = chain_at r.from f v.pending i r.chain k in
        let b : h.figures.offset ≤ key_at v.pending i + 191 = n.low in
        omega arith

-- ── a release ──

record Releases (f k : ℕ) (y : ReleaseStep) : Type 0 where
  answers : MovedLittle k y.answer
  lone : Lone f y.next

lead_later : (last : Option ℕ) (m o : ℕ) → Lead last m → m ≤ o → Later last o
lead_later None m o a h = tt
lead_later (Some l) m o a h = let a' : l + 192 ≤ m = a in omega arith

lead_half : (last : Option ℕ) (m o : ℕ) → Lead last m → m ≤ o → snapped last o ≤ o + 192
lead_half None m o a h = omega arith
lead_half (Some l) m o a h = let a' : l + 192 ≤ m = a in let k : l + 192 ≤ o = omega arith in snapped_half l o k

settle_lone : (f k : ℕ) (c : Option Chosen) (g : Freed) (ps : List Position) (last : Option ℕ) (m : ℕ) → Gives k c → All Own ps → Chain (k + 384) f ps → Lead last m → m ≤ k → Releases f k (settle c g ps last)
settle_lone f k c g ps last m (gives h b e) own chain lead low =
    let o : ℕ = h.figures.offset in
    let low' : m ≤ h.figures.offset = omega arith in
    let s : snapped last h.figures.offset ≤ h.figures.offset + 192 = lead_half last m h.figures.offset lead low' in
    let t : h.figures.offset ≤ snapped last h.figures.offset + 191 = snapped_ge last h.figures.offset in
    subst (λ (x : Bool). Releases f k (cond x (release_step (Frame (released_as (snapped last h.figures.offset) h b)) g (view ps (Some (snapped last h.figures.offset)))) (release_step PassedOver g (view ps last))))
    (sym (later_after last h.figures.offset (lead_later last m h.figures.offset lead low')))
    (record { answers = (omega arith, omega arith); lone = record { from = k + 384; own = own; chain = chain; lead = omega arith } })

release_lone : (f : ℕ) (s₀ s₁ : Option ℕ) (flush : Bool) (l : List Position) (last : Option ℕ) → Lone f (view l last) → Releases f (key_at l 0) (release_from s₀ s₁ flush l last)
release_lone f s₀ s₁ flush [] last r = record { answers = tt; lone = r }
release_lone f s₀ s₁ flush (p ∷ ps) last r =
    cond_both (Releases f p.key) (is_ready s₀ s₁ flush p) _ _
    (settle_lone f p.key (choice_of p) (freed_of p) ps last r.from r.own.0 r.own.1 r.chain.1 r.lead r.chain.0)
    (record { answers = tt; lone = r })

-- ── scripts ──

lone_from : (s f : ℕ) (calls : List Call) (v : View) → s ≤ 1 → Lone f v → Alone s f calls → Unbroken calls v
lone_from s f [] v one r a = tt
lone_from s f (push t h ∷ cs) v one r a =
    let e : t ≡ s = a.0 in
    let one' : t ≤ 1 = omega arith in
    let y : Pushes h.figures.offset v (push_of t h v) = push_lone t f h v one' a.1 r in
    (y.answers, lone_from s (h.figures.offset + 384) cs (push_of t h v).next one y.lone a.2)
lone_from s f (release s₀ s₁ flush ∷ cs) v one r a =
    let y : Releases f (key_at v.pending 0) (release_of s₀ s₁ flush v) = release_lone f s₀ s₁ flush v.pending v.last r in
    (y.answers, lone_from s f cs (release_of s₀ s₁ flush v).next one y.lone a)

pub unbroken : (s : ℕ) (calls : List Call) → s ≤ 1 → Alone s 0 calls → Unbroken calls started
unbroken s calls one a = lone_from s 0 calls started one (record { from = 0; own = tt; chain = omega arith; lead = tt }) a
