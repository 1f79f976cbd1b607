-- Arguments and invocations. Assumes nothing.
use Rattle.std.proofs.Common.{◌≡◌, ℕ, zero, suc, ◌+◌, ◌<◌, true, false, eqb, List, [], ◌∷◌, ◌++◌, map, length, pos, Some, None, Option, refl, ◌∙◌, subst, add-zero, arith}
use Rattle.std.proofs.lemmas.List.{length-map, map_push, length_push}
use Rattle.std.specs.List.{AllByRecursion}
use Rattle.std.specs.Option.{option_map}
use Rattle.store.specs.Val.{Val}
use Rattle.store.specs.Tables.{Table, look, put}
use Rattle.store.specs.Tables as store
use Rattle.machine.specs.declared.ending.Ending.TheVariants.{WrongArgumentCount}
use Rattle.machine.specs.Limits.{Limits, registers_per_frame}
use Rattle.machine.specs.Builtin.{builtin_of}
use Rattle.machine.specs.Instr.{Instr, Program}
use Rattle.machine.specs.Operands.{truth}
use Rattle.machine.specs.State.{Registers, Frame, frame, at, write, passed}
use Rattle.machine.proofs.Judge.{Has, Hold, none, more, Fetch}
use Rattle.machine.proofs.Exec.{do-const, do-jmp, do-if_zero, do-if_other, do-rd_tab, do-has_tab, do-call, end-call, end-halt, forward}
use Rattle.grammar.specs.Tree.{Expr, Args}
use Rattle.grammar.specs.Measure.{count}
use Rattle.rube.specs.Classes.{Callee, Classes, class_names, lookup, parameter_count}
use Rattle.rube.specs.Heap.{Heap, Setting, class_of}
use Rattle.rube.specs.Heap as heap
use Rattle.rube.specs.Evaluation.{State, unless}
use Rattle.rube.specs.Meaning.{Eval, enter, framed, called, eval, evals}
use Rattle.compiler.specs.Layout.{place_in, function_of}
use Rattle.compiler.specs.Pieces.{number, class_into, send}
use Rattle.compiler.specs.Body.{compile, compiles}
use Rattle.correctness.specs.Fitting.{MethodName}
use Rattle.correctness.proofs.Relation.{shift, tables_of, world, Globals, Fine, Sound, Grows}
use Rattle.correctness.proofs.Segments as seg
use Rattle.correctness.proofs.Segments.{Seg, Split, split, seg-end, head, tail, last}
use Rattle.correctness.proofs.Following.{Sim, bind, count-then, step_then, loop-then, slack, done, ending, weaken}
use Rattle.correctness.proofs.Registers.{has-written, has_other, hold-other, hold-below, hold-kept, has_kept, keep_same, keep-then}
use Rattle.correctness.proofs.Returning.{has-except, hold-except, except-pre, fine-grows, grows_then, grows_same, Back, back-post}
use Rattle.correctness.proofs.Judged.{Pre, Post, Posts, Goods, first, scratch}
use Rattle.correctness.proofs.Tabled.{class-here, read-class, read-method}
use Rattle.correctness.proofs.Classed.{one, two, class_at, class-then}
use Rattle.correctness.proofs.Forms.{setting, Ok}
use Rattle.correctness.proofs.Fields.{fine-known}

hold-push : {R : Registers} {t : ℕ} (ws : List Val) (w : Val) → Hold R t ws → Has R (t + length ws) w → Hold R t (ws ++ w ∷ [])
hold-push {t = t} [] w none h = more (rw add-zero at h) none
hold-push {t = t} (v ∷ ws) w (more a b) h =
    let e : t + suc (length ws) ≡ suc t + length ws = omega arith in
    more a (hold-push ws w b (rw e at h))

module _ {A : Type 0} (P : Classes A) (L : Limits) (C : Program) (G : Table) (globals : Globals P G) where
  all-fine : {H H' : Heap} (vs : List Val) → Grows P H H' → AllByRecursion (Fine P H) vs → AllByRecursion (Fine P H') vs
  all-fine [] g a = tt
  all-fine (v ∷ vs) g a = (fine-grows P L g a.0, all-fine vs g a.1)

  all_push : {H : Heap} (vs : List Val) (v : Val) → AllByRecursion (Fine P H) vs → Fine P H v → AllByRecursion (Fine P H) (vs ++ v ∷ [])
  all_push [] v a w = (w, tt)
  all_push (u ∷ vs) v a w = (a.0, all_push vs v a.1 w)

  -- behind arguments: the next answer's register is the one behind them
  beside : {ns : List (List ℕ)} {me : Val} {d t n : ℕ} {vs : List Val} {S : List Frame} {R₀ : Registers} {H₀ : Heap} {R R' : Registers} {s s' : State}
      → Pre P L ns me d t S R₀ H₀ R s → Posts P L ns me t n R₀ H₀ vs s' R' → Pre P L ns me d (t + n) S R' s'.heap R' s'
  beside h φ =
      let b = h.room in
      record { room = omega arith; frames = h.frames; stand = φ.stand; keep = keep_same; proper = φ.proper; grows = grows_same P L }

  module _ (k : ℕ) (again : Eval A) where
    abbrev pub Oks : Args A → Type 0
    Oks xs = Goods P L C G (suc k) (evals (setting P L C G globals k again) again) xs

    pub none-good : Oks Args.none
    unfolding evals compiles
    none-good = record { sim = λ h b g. done (seg.none g) (record { got = none; many = refl; stand = h.stand; keep = h.keep; proper = h.proper; fine = tt; grows = h.grows }) }

    pub more-good : (xs : Args A) (e : Expr A) → Oks xs → Ok P L C G globals k again e → Oks (Args.more xs e)
    unfolding evals compiles
    more-good xs e gxs ge = record {
      sim = λ {ns = ns} {t = t} h b g.
          let y = split (compiles P ns xs t) _ g in
          let room = h.room in
          bind (gxs.sim h b.0 y.left)
          (λ vs s R φ. bind (ge.sim (beside h φ) b.1 y.right)
          (λ v s' R' ψ.
          let m = φ.many in
          let lm = length-map vs (shift P) in
          done refl
          (record {
            got = rw (map_push (shift P) vs v) (hold-push (map (shift P) vs) (shift P v)
                (hold-kept room (omega arith) ψ.keep φ.got) (subst (λ i. Has R' i (shift P v)) (omega arith) ψ.got));
            many = length_push vs v ∙ omega arith;
            stand = ψ.stand;
            keep = keep-then (omega arith) φ.keep ψ.keep;
            proper = ψ.proper;
            fine = all_push vs v (all-fine vs ψ.grows φ.fine) ψ.fine;
            grows = grows_then P L φ.grows ψ.grows;
          })));
    }

    -- what a callee is passed: how many arguments, the receiver, the arguments
    abbrev pub block : Val → List Val → List Val
    block r vs = number (length vs) ∷ shift P r ∷ map (shift P) vs

    -- a callee that the receiver's class finds follows its meaning and answers into register t of its caller
    pub record Callable (f' : Callee A) : Type 0 where
      pub function : builtin_of (function_of f') ≡ None
      pub sim : {f pc t a last : ℕ} {S : List Frame} {R : Registers} (s : State) (r : Val) (vs : List Val) (x : List ℕ) (d : ℕ)
          → Fetch C f pc (Instr.call a t last) → t < registers_per_frame → d + suc (length S) ≡ 31
          → lookup P (class_of s.heap r) x ≡ Some f' → Fine P s.heap r → AllByRecursion (Fine P s.heap) vs
          → Sound P s.heap → heap.fits (setting P L C G globals k again) s.heap 0 0 ≡ true
          → Sim P C L G k (at (function_of f') 0 (passed (block r vs)) (frame f pc R ∷ S) (world P G s)) 20 s.counted f (suc pc) S (Back P L R t s)
          (unless WrongArgumentCount (eqb (length vs) (parameter_count f')) s (enter (setting P L C G globals k again) again d f' r vs s))

    -- a call: a frame is taken, or there is none
    pub framed-back : {f p q t a : ℕ} {ns : List (List ℕ)} {me : Val} {S : List Frame} {R₀ : Registers} {H₀ : Heap} {R : Registers} (s : State) (r : Val) (vs : List Val) (x : List ℕ) (f' : Callee A) (d : ℕ)
        → Callable f' → lookup P (class_of s.heap r) x ≡ Some f'
        → Pre P L ns me d t S R₀ H₀ R s → Fine P s.heap r → AllByRecursion (Fine P s.heap) vs → t < registers_per_frame
        → Has R a (Val.identifier (function_of f')) → Hold R t (block r vs) → Seg C f p (Instr.call a t (t + 1 + length vs) ∷ []) q
        → Sim P C L G (suc k) (at f p R S (world P G s)) 21 s.counted f q S (Back P L R t s) (framed (setting P L C G globals k again) again d f' r vs s)
    framed-back {t = t} s r vs x f' zero c e h w ws b i hs g =
        let lm = length-map vs (shift P) in
        let fr = h.frames in
        ending refl (end-call (head g) i hs (omega arith) c.function (omega arith))
    framed-back {t = t} s r vs x f' (suc d) c e h w ws b i hs g =
        let lm = length-map vs (shift P) in
        let fr = h.frames in
        loop-then (do-call (head g) i hs (omega arith) c.function (omega arith))
        (rw (← last g) (c.sim s r vs x d (head g) b (omega arith) e w ws h.proper.heap-fine h.proper.space))

    framed_then : {f p q t a : ℕ} {ns : List (List ℕ)} {me : Val} {S : List Frame} {R₀ : Registers} {H₀ : Heap} {R : Registers} (s : State) (r : Val) (vs : List Val) (x : List ℕ) (f' : Callee A) (d : ℕ)
        → Callable f' → lookup P (class_of s.heap r) x ≡ Some f'
        → Pre P L ns me d t S R₀ H₀ R s → Fine P s.heap r → AllByRecursion (Fine P s.heap) vs → t < registers_per_frame
        → Has R a (Val.identifier (function_of f')) → Hold R t (block r vs) → Seg C f p (Instr.call a t (t + 1 + length vs) ∷ []) q
        → Sim P C L G (suc k) (at f p R S (world P G s)) 21 s.counted f q S (Post P L ns me t R₀ H₀) (framed (setting P L C G globals k again) again d f' r vs s)
    framed_then s r vs x f' d c e h w ws b i hs g = weaken (λ v s' R' φ. back-post P L h φ) (framed-back s r vs x f' d c e h w ws b i hs g)

    abbrev Tested : ℕ → ℕ → List ℕ → ℕ → List Instr
    Tested t n x m =
        Instr.const (t + 3 + n) (Val.string x)
        ∷ Instr.has_tab (t + 4 + n) (t + 2 + n) (t + 3 + n)
        ∷ Instr.if_zero (t + 4 + n) (pos 1)
        ∷ Instr.jmp (pos 2)
        ∷ Instr.const (t + 4 + n) (number 1)
        ∷ Instr.halt (t + 4 + n)
        ∷ Instr.rd_tab (t + 2 + n) (t + 2 + n) (t + 3 + n)
        ∷ Instr.const t (number n)
        ∷ Instr.call (t + 2 + n) t (t + 1 + n)
        ∷ []

    -- the receiver's class table stands behind the arguments
    sent-then : {f p q t : ℕ} {ns : List (List ℕ)} {me : Val} {S : List Frame} {R₀ : Registers} {H₀ : Heap} {R : Registers} (s : State) (r : Val) (vs : List Val) (x : List ℕ) (d n : ℕ) (o : Option (Callee A))
        → ((f' : Callee A) → o ≡ Some f' → Callable f') → lookup P (class_of s.heap r) x ≡ o → length vs ≡ n
        → store.read (tables_of P s.heap) (place_in (class_names P) (class_of s.heap r)) (Val.string x) ≡ option_map (λ f''. Val.identifier (function_of f'')) o
        → Pre P L ns me d t S R₀ H₀ R s → Fine P s.heap r → AllByRecursion (Fine P s.heap) vs → t + n + 4 < registers_per_frame
        → Has R (suc t) (shift P r) → Hold R (suc (suc t)) (map (shift P) vs) → Has R (t + 2 + n) (class_at P L C G globals s.heap r) → Seg C f p (Tested t n x 0) q
        → Sim P C L G (suc k) (at f p R S (world P G s)) 118 s.counted f q S (Post P L ns me t R₀ H₀) (called (setting P L C G globals k again) again d o r vs s)
    sent-then {t = t} {R = R} s r vs x d n None cs e m rd h w ws b i hs c g =
        let R₁ = write R (t + 3 + n) (Val.string x) in
        let R₂ = write R₁ (t + 4 + n) (truth false) in
        let here = class-here P s.heap (class_of s.heap r) (fine-known P L C G globals w) in
        let c₁ = has_other R (t + 3 + n) (t + 2 + n) (Val.string x) (λ z. omega arith) c in
        step_then (do-const (head g) (omega arith))
        (step_then (do-has_tab (head (tail g)) (omega arith) c₁ here (has-written R (t + 3 + n) (Val.string x)))
        (rw rd (step_then (do-if_zero (head (tail (tail g))) (has-written R₁ (t + 4 + n) (truth false)) (forward _ _ _ (one _)))
        (step_then (do-const (head (tail (tail (tail (tail g))))) (omega arith))
        (ending refl (end-halt (head (tail (tail (tail (tail (tail g)))))) (has-written R₂ (t + 4 + n) (number 1))))))))
    sent-then {t = t} {R = R} s r vs x d n (Some f') cs e m rd h w ws b i hs c g =
        let fn = Val.identifier (function_of f') in
        let R₁ = write R (t + 3 + n) (Val.string x) in
        let R₂ = write R₁ (t + 4 + n) (truth true) in
        let R₃ = write R₂ (t + 2 + n) fn in
        let R₄ = write R₃ t (number n) in
        let lm = length-map vs (shift P) in
        let here = class-here P s.heap (class_of s.heap r) (fine-known P L C G globals w) in
        let c₁ = has_other R (t + 3 + n) (t + 2 + n) (Val.string x) (λ z. omega arith) c in
        let c₂ = has_other R₁ (t + 4 + n) (t + 2 + n) (truth true) (λ z. omega arith) c₁ in
        let k₂ = has_other R₁ (t + 4 + n) (t + 3 + n) (truth true) (λ z. omega arith) (has-written R (t + 3 + n) (Val.string x)) in
        let i₃ = has_other R₂ (t + 2 + n) (suc t) fn (λ z. omega arith) (has_other R₁ (t + 4 + n) (suc t) (truth true) (λ z. omega arith) (has_other R (t + 3 + n) (suc t) (Val.string x) (λ z. omega arith) i)) in
        let i₄ = has_other R₃ t (suc t) (number n) (λ z. omega arith) i₃ in
        let hs₃ = hold-other R₂ (t + 2 + n) fn (omega arith) (hold-other R₁ (t + 4 + n) (truth true) (omega arith) (hold-other R (t + 3 + n) (Val.string x) (omega arith) hs)) in
        let hs₄ = hold-below R₃ t (number n) (omega arith) hs₃ in
        let fn₄ = has_other R₃ t (t + 2 + n) (number n) (λ z. omega arith) (has-written R₂ (t + 2 + n) fn) in
        let h₄ = scratch P L t (number n) (omega arith) (scratch P L (t + 2 + n) fn (omega arith) (scratch P L (t + 4 + n) (truth true) (omega arith) (scratch P L (t + 3 + n) (Val.string x) (omega arith) h))) in
        step_then (do-const (head g) (omega arith))
        (step_then (do-has_tab (head (tail g)) (omega arith) c₁ here (has-written R (t + 3 + n) (Val.string x)))
        (rw rd (step_then (do-if_other (head (tail (tail g))) (has-written R₁ (t + 4 + n) (truth true)) refl)
        (step_then (do-jmp (head (tail (tail (tail g)))) (forward _ _ _ (two _)))
        (step_then (do-rd_tab (head (tail (tail (tail (tail (tail (tail g))))))) (omega arith) c₂ here k₂ rd)
        (step_then (do-const (head (tail (tail (tail (tail (tail (tail (tail g)))))))) (omega arith))
        (slack 112 (omega arith)
        (framed_then s r vs x f' d (cs f' refl) e h₄ w ws (omega arith) fn₄ (more (rw m (has-written R₃ t (number n))) (more i₄ hs₄)) (rw m (tail (tail (tail (tail (tail (tail (tail (tail g)))))))))))))))))

    -- an invocation's method is looked up, and entered if it is there
    pub send-then : {f p q t : ℕ} {ns : List (List ℕ)} {me : Val} {S : List Frame} {R₀ : Registers} {H₀ : Heap} {R : Registers} (s : State) (r : Val) (vs : List Val) (x : List ℕ) (d n : ℕ)
        → ((f' : Callee A) → lookup P (class_of s.heap r) x ≡ Some f' → Callable f') → length vs ≡ n → MethodName x
        → Pre P L ns me d t S R₀ H₀ R s → Fine P s.heap r → AllByRecursion (Fine P s.heap) vs → t + n + 4 < registers_per_frame
        → Has R (suc t) (shift P r) → Hold R (t + 2) (map (shift P) vs) → Seg C f p (send P t x n) q
        → Sim P C L G (suc k) (at f p R S (world P G s)) 128 s.counted f q S (Post P L ns me t R₀ H₀) (called (setting P L C G globals k again) again d (lookup P (class_of s.heap r) x) r vs s)
    unfolding send
    send-then {t = t} s r vs x d n cs m mn h w ws b i hs g =
        let y = split (class_into P (t + 2 + n) (suc t)) _ g in
        let lm = length-map vs (shift P) in
        let known-class = fine-known P L C G globals w in
        let rd = read-class P s.heap (class_of s.heap r) (Val.string x) known-class ∙ read-method P (class_of s.heap r) x mn in
        class-then P L C G globals {c = 118} s r (omega arith) w (omega arith) (λ z. omega arith) y.left i
        (λ R' ex c.
        sent-then s r vs x d n (lookup P (class_of s.heap r) x) cs refl m rd (except-pre P L (t + 2 + n) (omega arith) ex h) w ws b
        (has-except (λ z. omega arith) ex i) (hold-except (omega arith) ex (rw (two t) at hs)) c y.right)

    -- every method that a class finds can be called
    abbrev pub Callables : Type 0
    Callables = (D x : List ℕ) (f' : Callee A) → lookup P D x ≡ Some f' → Callable f'

    pub invoke-good : Callables → (a : A) (e : Expr A) (x : List ℕ) (xs : Args A) → Ok P L C G globals k again e → Oks xs → Ok P L C G globals k again (Expr.invoke a e x xs)
    unfolding eval compile
    invoke-good cs a e x xs ge gxs = record {
      sim = λ {ns = ns} {d = d} {t = t} {R = R₁} h b g.
          let y = split (compile P ns e (suc t)) _ g in
          let z = split (compiles P ns xs (t + 2)) _ y.right in
          let room = h.room in
          count-then
          (bind (ge.sim (record { room = omega arith; frames = h.frames; stand = h.stand; keep = keep_same; proper = (first P L h).proper; grows = grows_same P L }) b.2 y.left)
          (λ r s R φ. bind (gxs.sim (record { room = omega arith; frames = h.frames; stand = φ.stand; keep = keep_same; proper = φ.proper; grows = grows_same P L }) b.3 z.left)
          (λ vs s' R' ψ.
          send-then s' r vs x d (count xs) (λ f' q. cs (class_of s'.heap r) x f' q) ψ.many b.0
          (record {
            room = room;
            frames = h.frames;
            stand = ψ.stand;
            keep = keep-then (omega arith) (keep-then (omega arith) h.keep φ.keep) ψ.keep;
            proper = ψ.proper;
            grows = grows_then P L (grows_then P L h.grows φ.grows) ψ.grows;
          })
          (fine-grows P L ψ.grows φ.fine) ψ.fine b.1 (has_kept (omega arith) (omega arith) ψ.keep φ.got) ψ.got z.right)));
    }
