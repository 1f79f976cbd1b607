-- The forms of expressions that touch no table: literals, names, conditionals, loops, sequences. Assumes nothing.
use Rattle.std.proofs.Common.{◌≡◌, ℕ, suc, ◌+◌, ◌<◌, ◌≤◌, Bool, true, false, cond, List, [], ◌∷◌, pos, Some, None, Option, sym, refl, ◌∙◌, subst, arith}
use Rattle.std.specs.List.{AllByRecursion}
use Rattle.std.specs.Str.{bytes_eq}
use Rattle.store.specs.Val.{Val, equal_val}
use Rattle.store.specs.Tables.{Table, look, put}
use Rattle.store.proofs.Tables.{look-put-same, look-put-other}
use Rattle.store.specs.ValuesLemmas.{decides-val}
use Rattle.std.proofs.lemmas.Bool.Decides.{nat_tests}
use Rattle.machine.specs.Limits.{Limits, registers_per_frame}
use Rattle.machine.specs.Instr.{Instr, Program}
use Rattle.machine.specs.Operands.{truth}
use Rattle.machine.specs.State.{Registers, Frame, at, write}
use Rattle.machine.proofs.Judge.{Has, Fetch}
use Rattle.machine.proofs.Registers.{read-other}
use Rattle.std.proofs.lemmas.Slice.Eq.{bytes_eq-Decides}
use Rattle.std.proofs.lemmas.Bool.{false≢true}
use Rattle.machine.proofs.Exec.{do-const, do-mov, do-eq, do-jmp, do-if_zero, do-if_other, do-rd_glob, end-halt, forward, back}
use Rattle.grammar.specs.Tree.{Expr}
use Rattle.rube.specs.Classes.{Classes, among}
use Rattle.rube.specs.Heap.{Heap, Setting, nil, is_nil}
use Rattle.rube.specs.Evaluation.{State, Res, val, end, with_locals}
use Rattle.rube.specs.Evaluation as evaluation
use Rattle.rube.specs.Meaning.{Eval, bound, eval}
use Rattle.compiler.specs.Layout.{mark, slot, free, place_in}
use Rattle.compiler.specs.Pieces.{is_nil_into}
use Rattle.compiler.specs.Body.{read_local, compile}
use Rattle.correctness.specs.Fitting.{Fit}
use Rattle.correctness.proofs.Relation.{shift, world, held, Globals, Fine, integer, text, object, FineHeap, Self, self}
use Rattle.correctness.proofs.Segments.{Seg, split, seg-end, head, tail, last}
use Rattle.correctness.proofs.Following.{Sim, bind, finish, count-then, step_then, loop-then, slack, done, ending}
use Rattle.correctness.proofs.Registers.{has-written, has_other, slot-below, place_same}
use Rattle.correctness.proofs.Judged.{Pre, Post, Good, first, next, answer, scratched}

-- an answer's register is one of the frame's
pub fit-below : {A : Type 0} (ns : List (List ℕ)) (e : Expr A) (t : ℕ) → Fit ns e t → t < registers_per_frame
fit-below ns (Expr.int a w) t b = b
fit-below ns (Expr.nil a) t b = b
fit-below ns (Expr.self a) t b = b
fit-below ns (Expr.string a w) t b = b
fit-below ns (Expr.local a x) t b = omega (arith, b.1)
fit-below ns (Expr.set_local a x e) t b = fit-below ns e t b.1
fit-below ns (Expr.field a x) t b = omega (arith, b.1)
fit-below ns (Expr.set_field a x e) t b = fit-below ns e t b.2
fit-below ns (Expr.if_then_else a c d e) t b = fit-below ns c t b.1
fit-below ns (Expr.while_do a c d) t b = fit-below ns c t b.1
fit-below ns (Expr.seq a c d) t b = fit-below ns c t b.0
fit-below ns (Expr.new a C xs) t b = omega (arith, b.0)
fit-below ns (Expr.instance_of a e C) t b = fit-below ns e t b.1
fit-below ns (Expr.invoke a e x xs) t b = omega (arith, b.1)

module _ {A : Type 0} (P : Classes A) (L : Limits) (C : Program) (G : Table) (globals : Globals P G) where
  -- nil is an object of class Bot
  pub nil-fine : {H : Heap} → FineHeap P H → Fine P H nil
  nil-fine h = object h.bot.1 refl

  self-fine : {H : Heap} {me : Val} → Self P H me → Fine P H me
  self-fine (self e m k) = object e k

  nil-equal : (v : Val) → equal_val (shift P nil) (shift P v) ≡ is_nil v
  unfolding equal_val
  nil-equal (Val.int n) = refl
  nil-equal (Val.string t) = refl
  nil-equal (Val.identifier g) = refl
  nil-equal (Val.location l) = grind (arith, nat_tests)

  abbrev pub Tested : Registers → ℕ → Val → Registers
  Tested R d v = write (write R d (shift P nil)) d (truth (is_nil v))

  -- a test for nil, into the register above t: 1 for nil, 0 otherwise
  pub nil-test : {X : Type 0} {Φ : X → State → Registers → Type 0} {k c n f p q' q : ℕ} {S : List Frame} {R : Registers} {t : ℕ} {r : Res X} (s : State) (v : Val)
      → suc t < registers_per_frame → Seg C f p (is_nil_into (suc t) t) q' → Has R t (shift P v)
      → Sim P C L G k (at f q' (Tested R (suc t) v) S (world P G s)) c n f q S Φ r
      → Sim P C L G k (at f p R S (world P G s)) (suc (suc c)) n f q S Φ r
  nil-test {R = R} {t = t} s v b g h x =
      let nil-in = has-written R (suc t) (shift P nil) in
      let v-in = has_other R (suc t) t (shift P nil) (λ e. omega arith) h in
      step_then (do-rd_glob (head g) b globals.nils)
      (step_then (do-eq (head (tail g)) b nil-in v-in) (rw (nil-equal v, last (tail g)) x))

  -- a jump on a test: the code for yes stands right behind, the other at p'
  pub branch : {X : Type 0} {Φ : X → State → Registers → Type 0} {k c n f p p' q t j : ℕ} {S : List Frame} {R : Registers} {x y : Res X} (s : State) (b : Bool)
      → Fetch C f p (Instr.if_zero t (pos j)) → suc p + j ≡ p' → Has R t (truth b)
      → (b ≡ true → Sim P C L G k (at f (suc p) R S (world P G s)) c n f q S Φ x)
      → (b ≡ false → Sim P C L G k (at f p' R S (world P G s)) c n f q S Φ y)
      → Sim P C L G k (at f p R S (world P G s)) (suc c) n f q S Φ (cond b x y)
  branch s true h e g x y = step_then (do-if_other h g refl) (x refl)
  branch s false h e g x y = step_then (do-if_zero h g (forward _ _ _ e)) (y refl)

  -- what a fine table gives is fine
  look-fine : {H : Heap} (t : Table) (k v : Val) → AllByRecursion (λ p. Fine P H p.1) t → look k t ≡ Some v → Fine P H v
  unfolding look
  look-fine [] k v a e = let z : ◌≡◌ {A = ℕ} 0 1 = cc in absurd (omega arith)
  look-fine {H} (p ∷ t) k v a e = by (equal_val p.0 k) e (look-fine t k v a.1) where
    by : (b : Bool) → cond b (Some p.1) (look k t) ≡ Some v → (look k t ≡ Some v → Fine P H v) → Fine P H v
    by true e f = let w : p.1 ≡ v = cc in subst (Fine P H) w a.0
    by false e f = f e

  -- no value of the language is a mark
  mark-apart : {H : Heap} {v : Val} → Fine P H v → equal_val mark (shift P v) ≡ false
  unfolding equal_val
  mark-apart integer = refl
  mark-apart text = refl
  mark-apart (object e k) = refl

  -- a name is read: a mark ends the run
  bound-then : {k f p q t : ℕ} {ns : List (List ℕ)} {me : Val} {d : ℕ} {S : List Frame} {R₀ : Registers} {H₀ : Heap} {R : Registers} (s : State) (x : List ℕ) (o : Option Val)
      → look (Val.string x) s.locals ≡ o → Pre P L ns me d t S R₀ H₀ R s → among ns x ≡ true → t + 1 < registers_per_frame
      → Seg C f p (read_local P (slot ns x) t) q
      → Sim P C L G k (at f p R S (world P G s)) 128 s.counted f q S (Post P L ns me t R₀ H₀) (bound o s)
  unfolding equal_val
  bound-then {t = t} {R = R} s x None e h m b g =
      let r = rw e at (h.stand.names_in x m) in
      let R₁ = write R t mark in
      let R₂ = write R₁ (suc t) mark in
      let R₃ = write R₂ (suc t) (truth true) in
      step_then (do-mov (head g) (omega arith) r)
      (step_then (do-const (head (tail g)) (omega arith))
      (step_then (do-eq (head (tail (tail g))) (omega arith) (has-written R₁ (suc t) mark) (has_other R₁ (suc t) t mark (λ q. omega arith) (has-written R t mark)))
      (step_then (do-if_other (head (tail (tail (tail g)))) (has-written R₂ (suc t) (truth true)) refl)
      (step_then (do-const (head (tail (tail (tail (tail g))))) (omega arith))
      (ending refl (end-halt (head (tail (tail (tail (tail (tail g)))))) (has-written R₃ (suc t) (Val.int (pos 4)))))))))
  bound-then {t = t} {R = R} s x (Some v) e h m b g =
      let r = rw e at (h.stand.names_in x m) in
      let w = look-fine s.locals (Val.string x) v h.proper.locals-fine e in
      let R₁ = write R t (shift P v) in
      let R₂ = write R₁ (suc t) mark in
      let φ = answer P L h w in
      let room = h.room in
      step_then (do-mov (head g) (omega arith) r)
      (step_then (do-const (head (tail g)) (omega arith))
      (step_then (do-eq (head (tail (tail g))) (omega arith) (has-written R₁ (suc t) mark) (has_other R₁ (suc t) t mark (λ q. omega arith) (has-written R t (shift P v))))
      (rw (mark-apart w)
      (step_then (do-if_zero (head (tail (tail (tail g)))) (has-written R₂ (suc t) (truth false)) (forward _ _ _ refl))
      (done (omega (arith, seg-end g)) (scratched P L (suc t) (truth false) room (omega arith) (scratched P L (suc t) mark room (omega arith) φ)))))))

  put-fine : {H : Heap} (t : Table) (k v : Val) → AllByRecursion (λ p. Fine P H p.1) t → Fine P H v → AllByRecursion (λ p. Fine P H p.1) (put k v t)
  unfolding put
  put-fine [] k v a w = (w, tt)
  put-fine {H} (p ∷ t) k v a w = by (equal_val p.0 k) (put-fine t k v a.1 w) where
    by : (b : Bool) → AllByRecursion (λ p. Fine P H p.1) (put k v t) → AllByRecursion (λ p. Fine P H p.1) (cond b ((p.0, v) ∷ t) (p ∷ put k v t))
    by true f = (w, a.1)
    by false f = (a.0, f)

  -- a name's register takes what was written
  set-post : {ns : List (List ℕ)} {me v : Val} {t : ℕ} {R₀ : Registers} {H₀ : Heap} {R : Registers} {s : State} (x : List ℕ) → among ns x ≡ true → free ns ≤ t → Post P L ns me t R₀ H₀ v s R
      → Post P L ns me t R₀ H₀ v (with_locals (put (Val.string x) v s.locals) s) (write R (slot ns x) (shift P v))
  set-post {ns} {me} {v} {t} {R₀} {H₀} {R} {s} x m b φ =
      let l = slot-below ns x m in
      record {
        got = has_other R (slot ns x) t (shift P v) (λ e. omega arith) φ.got;
        stand = record {
          me-in = has_other R (slot ns x) 1 (shift P v) (λ e. omega arith) φ.stand.me-in;
          names_in = λ y n. by y n (bytes_eq x y) refl;
        };
        keep = record { kept = λ i a u. read-other R (slot ns x) i (shift P v) (λ e. omega arith) ∙ φ.keep.kept i a u };
        proper = record {
          heap-fine = φ.proper.heap-fine;
          me-fine = φ.proper.me-fine;
          locals-fine = put-fine s.locals (Val.string x) v φ.proper.locals-fine φ.fine;
          space = φ.proper.space;
        };
        fine = φ.fine;
        grows = φ.grows;
      }
    where
      by : (y : List ℕ) → among ns y ≡ true → (c : Bool) → bytes_eq x y ≡ c → Has (write R (slot ns x) (shift P v)) (slot ns y) (held P (look (Val.string y) (put (Val.string x) v s.locals)))
      by y n true e =
          let q = (bytes_eq-Decides x y).0 e in
          rw (← q, look-put-same (Val.string x) v s.locals) (has-written R (slot ns x) (shift P v))
      by y n false e =
          let apart : Val.string y ≡ Val.string x → ⊥ = λ z. let w : x ≡ y = cc in false≢true (sym e ∙ (bytes_eq-Decides x y).1 w) in
          rw (look-put-other (Val.string y) (Val.string x) v s.locals apart)
          (has_other R (slot ns x) (slot ns y) (shift P v)
          (λ z. let w : place_in ns x ≡ place_in ns y = omega arith in false≢true (sym e ∙ (bytes_eq-Decides x y).1 (place_same ns x y m n w)))
          (φ.stand.names_in y n))

  -- the test for nil leaves the answer
  tested : {ns : List (List ℕ)} {me : Val} {t : ℕ} {R₀ : Registers} {H₀ : Heap} {R : Registers} (s : State) (v : Val) → free ns ≤ t → Post P L ns me t R₀ H₀ v s R → Post P L ns me t R₀ H₀ v s (Tested R (suc t) v)
  tested {t = t} s v b φ = scratched P L (suc t) (truth (is_nil v)) b (omega arith) (scratched P L (suc t) (shift P nil) b (omega arith) φ)

  -- an answer that is nil
  nil-post : {ns : List (List ℕ)} {me : Val} {t : ℕ} {R₀ : Registers} {H₀ : Heap} {R : Registers} (s : State) (v : Val) → v ≡ nil → Post P L ns me t R₀ H₀ v s R → Post P L ns me t R₀ H₀ nil s R
  nil-post {ns} {me} {t} {R₀} {H₀} {R} s v e φ = subst (λ w. Post P L ns me t R₀ H₀ w s R) e φ

  -- at the next lower clock all is followed already
  module _ (k : ℕ) (again : Eval A) where
    abbrev pub setting : Setting A
    setting = record { classes = P; limits = L }

    abbrev pub Ok : Expr A → Type 0
    Ok e = Good P L C G (suc k) (eval setting again) e

    pub int-good : (a : A) (w : List ℕ) → Ok (Expr.int a w)
    unfolding eval compile
    int-good a w = record { sim = λ h b g. count-then (step_then (do-const (head g) b) (done (last g) (answer P L (first P L h) integer))) }

    pub string-good : (a : A) (w : List ℕ) → Ok (Expr.string a w)
    unfolding eval compile
    string-good a w = record { sim = λ h b g. count-then (step_then (do-const (head g) b) (done (last g) (answer P L (first P L h) text))) }

    pub nil-good : (a : A) → Ok (Expr.nil a)
    unfolding eval compile
    nil-good a = record { sim = λ h b g. count-then (step_then (do-rd_glob (head g) b globals.nils) (done (last g) (answer P L (first P L h) (nil-fine h.proper.heap-fine.fine)))) }

    pub self-good : (a : A) → Ok (Expr.self a)
    unfolding eval compile
    self-good a = record { sim = λ h b g. count-then (step_then (do-mov (head g) b h.stand.me-in) (done (last g) (answer P L (first P L h) (self-fine h.proper.me-fine)))) }

    pub local-good : (a : A) (x : List ℕ) → Ok (Expr.local a x)
    unfolding eval compile
    local-good a x = record { sim = λ {s = s} h b g. count-then (bound-then (evaluation.count s) x _ refl (first P L h) b.0 b.1 g) }

    pub set_local-good : (a : A) (x : List ℕ) (e : Expr A) → Ok e → Ok (Expr.set_local a x e)
    unfolding eval compile
    set_local-good a x e ge = record {
      sim = λ {ns = ns} {t = t} h b g.
          let y = split (compile P ns e t) _ g in
          let room = h.room in
          let l = slot-below ns x b.0 in
          let u = fit-below ns e t b.1 in
          count-then
          (bind (ge.sim (first P L h) b.1 y.left)
          (λ v s R φ. step_then (do-mov (head y.right) (omega arith) φ.got) (done (last y.right) (set-post x b.0 room φ))));
    }

    pub seq-good : (a : A) (c d : Expr A) → Ok c → Ok d → Ok (Expr.seq a c d)
    unfolding eval compile
    seq-good a c d gc gd = record {
      sim = λ {ns = ns} {t = t} h b g.
          let y = split (compile P ns c t) (compile P ns d t) g in
          count-then
          (bind (gc.sim (first P L h) b.0 y.left) (λ v s R φ. slack 128 (omega arith) (gd.sim (next P L h φ) b.1 y.right)));
    }

    pub if-good : (a : A) (c d e : Expr A) → Ok c → Ok d → Ok e → Ok (Expr.if_then_else a c d e)
    unfolding eval compile
    if-good a c d e gc gd ge = record {
      sim = λ {ns = ns} {t = t} h b g.
          let x = split (compile P ns c t) _ g in
          let y = split (is_nil_into (suc t) t) _ x.right in
          let z = split (compile P ns e t) _ (tail y.right) in
          let room = h.room in
          count-then
          (bind (gc.sim (first P L h) b.1 x.left)
          (λ v s R φ.
          let ψ = tested s v room φ in
          nil-test s v (omega (arith, b.0)) y.left φ.got
          (branch s (is_nil v) (head y.right) (omega (arith, z.mid-is)) (has-written (write R (suc t) (shift P nil)) (suc t) (truth (is_nil v)))
          (λ _. finish (ge.sim (next P L h ψ) b.3 z.left)
          (λ v' s' R' φ'. step_then (do-jmp (head z.right) (forward _ _ _ (sym (seg-end (tail z.right))))) (done refl φ')))
          (λ _. slack 125 (omega arith) (gd.sim (next P L h ψ) b.2 (tail z.right))))));
    }

    pub while-good : ((e : Expr A) → Good P L C G k again e) → (a : A) (c d : Expr A) → Ok c → Ok d → Ok (Expr.while_do a c d)
    unfolding eval compile
    while-good rec a c d gc gd = record {
      sim = λ {ns = ns} {t = t} h b g.
          let x = split (compile P ns c t) _ g in
          let y = split (is_nil_into (suc t) t) _ x.right in
          let z = split (compile P ns d t) _ (tail (tail y.right)) in
          let room = h.room in
          count-then
          (bind (gc.sim (first P L h) b.1 x.left)
          (λ v s R φ.
          let ψ = tested s v room φ in
          nil-test s v (omega (arith, b.0)) y.left φ.got
          (branch s (is_nil v) (head y.right) (omega arith) (has-written (write R (suc t) (shift P nil)) (suc t) (truth (is_nil v)))
          (λ e. step_then (do-jmp (head (tail y.right)) (forward _ _ _ (omega (arith, z.mid-is, last z.right))))
          (done refl (nil-post s v ((decides-val v nil).0 e) ψ)))
          (λ _. bind (gd.sim (next P L h ψ) b.2 z.left)
          (λ v' s' R' φ'. loop-then (do-jmp (head z.right) (back _ _ _ (omega (arith, x.mid-is, y.mid-is, z.mid-is)))) (slack 124 (omega arith) ((rec (Expr.while_do a c d)).sim (next P L h φ') b g)))))));
    }
