-- What holds before and after the code of an expression. Assumes nothing.
use Rattle.std.proofs.Common.{◌≡◌, ℕ, ◌+◌, ◌<◌, ◌≤◌, List, map, length, arith}
use Rattle.std.specs.List.{AllByRecursion}
use Rattle.store.specs.Val.{Val}
use Rattle.store.specs.Tables.{Table}
use Rattle.machine.specs.Limits.{Limits}
use Rattle.machine.specs.Instr.{Program}
use Rattle.machine.specs.State.{Registers, Frame, at, write}
use Rattle.machine.proofs.Judge.{Has, Hold}
use Rattle.grammar.specs.Tree.{Expr, Args}
use Rattle.grammar.specs.Measure.{count}
use Rattle.rube.specs.Classes.{Classes}
use Rattle.rube.specs.Heap.{Heap}
use Rattle.rube.specs.Evaluation.{State, Res}
use Rattle.rube.specs.Evaluation as evaluation
use Rattle.rube.specs.Meaning.{Eval}
use Rattle.compiler.specs.Layout.{free}
use Rattle.compiler.specs.Body.{compile, compiles}
use Rattle.correctness.specs.Fitting.{Fit, Fits}
use Rattle.correctness.proofs.Relation.{shift, world, Fine, Proper, Stand, Grows, Keep}
use Rattle.correctness.proofs.Segments.{Seg}
use Rattle.correctness.proofs.Following.{Sim}
use Rattle.correctness.proofs.Registers.{has-written, has_other, keep-write, stand-write}

module _ {A : Type 0} (P : Classes A) (L : Limits) where
  -- before: names and self in their registers, the registers from `free` up to t as in R₀, the heap grown from H₀
  pub record Pre (ns : List (List ℕ)) (me : Val) (d t : ℕ) (S : List Frame) (R₀ : Registers) (H₀ : Heap) (R : Registers) (s : State) : Type 0 where
    pub room : free ns ≤ t
    pub frames : d + length S ≡ 31
    pub stand : Stand P ns me s.locals R
    pub keep : Keep (free ns) t R₀ R
    pub proper : Proper P L me s
    pub grows : Grows P H₀ s.heap

  -- after: the answer in t as well
  pub record Post (ns : List (List ℕ)) (me : Val) (t : ℕ) (R₀ : Registers) (H₀ : Heap) (v : Val) (s : State) (R : Registers) : Type 0 where
    pub got : Has R t (shift P v)
    pub stand : Stand P ns me s.locals R
    pub keep : Keep (free ns) t R₀ R
    pub proper : Proper P L me s
    pub fine : Fine P s.heap v
    pub grows : Grows P H₀ s.heap

  -- after arguments: as many answers from t on
  pub record Posts (ns : List (List ℕ)) (me : Val) (t n : ℕ) (R₀ : Registers) (H₀ : Heap) (vs : List Val) (s : State) (R : Registers) : Type 0 where
    pub got : Hold R t (map (shift P) vs)
    pub many : length vs ≡ n
    pub stand : Stand P ns me s.locals R
    pub keep : Keep (free ns) t R₀ R
    pub proper : Proper P L me s
    pub fine : AllByRecursion (Fine P s.heap) vs
    pub grows : Grows P H₀ s.heap

  module _ (C : Program) (G : Table) where
    -- the expression's code follows this evaluation of it, at clock k
    pub record Good (k : ℕ) (ev : Eval A) (e : Expr A) : Type 0 where
      pub sim : {ns : List (List ℕ)} {me : Val} {d f p q t : ℕ} {S : List Frame} {R₀ : Registers} {H₀ : Heap} {R : Registers} {s : State}
          → Pre ns me d t S R₀ H₀ R s → Fit ns e t → Seg C f p (compile P ns e t) q
          → Sim P C L G k (at f p R S (world P G s)) 0 s.counted f q S (Post ns me t R₀ H₀) (ev me d e s)

    pub record Goods (k : ℕ) (ev : Val → ℕ → Args A → State → Res (List Val)) (xs : Args A) : Type 0 where
      pub sim : {ns : List (List ℕ)} {me : Val} {d f p q t : ℕ} {S : List Frame} {R₀ : Registers} {H₀ : Heap} {R : Registers} {s : State}
          → Pre ns me d t S R₀ H₀ R s → Fits ns xs t → Seg C f p (compiles P ns xs t) q
          → Sim P C L G k (at f p R S (world P G s)) 0 s.counted f q S (Posts ns me t (count xs) R₀ H₀) (ev me d xs s)

  -- counting a rule changes neither names nor heap
  proper-count : {me : Val} {s : State} → Proper P L me s → Proper P L me (evaluation.count s)
  proper-count h = record { heap-fine = h.heap-fine; me-fine = h.me-fine; locals-fine = h.locals-fine; space = h.space }

  pub first : {ns : List (List ℕ)} {me : Val} {d t : ℕ} {S : List Frame} {R₀ : Registers} {H₀ : Heap} {R : Registers} {s : State}
      → Pre ns me d t S R₀ H₀ R s → Pre ns me d t S R₀ H₀ R (evaluation.count s)
  first h = record { room = h.room; frames = h.frames; stand = h.stand; keep = h.keep; proper = proper-count h.proper; grows = h.grows }

  -- the next part, with the same register for its answer
  pub next : {ns : List (List ℕ)} {me v : Val} {d t : ℕ} {S : List Frame} {R₀ : Registers} {H₀ : Heap} {R R' : Registers} {s s' : State}
      → Pre ns me d t S R₀ H₀ R s → Post ns me t R₀ H₀ v s' R' → Pre ns me d t S R₀ H₀ R' s'
  next h φ = record { room = h.room; frames = h.frames; stand = φ.stand; keep = φ.keep; proper = φ.proper; grows = φ.grows }

  -- a new answer in t
  pub answer : {ns : List (List ℕ)} {me v : Val} {d t : ℕ} {S : List Frame} {R₀ : Registers} {H₀ : Heap} {R : Registers} {s : State}
      → Pre ns me d t S R₀ H₀ R s → Fine P s.heap v → Post ns me t R₀ H₀ v s (write R t (shift P v))
  answer {v = v} {t = t} {R = R} h w =
      record {
        got = has-written R t (shift P v);
        stand = stand-write R t (shift P v) h.room h.stand;
        keep = keep-write R t (shift P v) (omega arith) h.keep;
        proper = h.proper;
        fine = w;
        grows = h.grows;
      }

  -- a scratch register above t
  pub scratch : {ns : List (List ℕ)} {me : Val} {d t : ℕ} {S : List Frame} {R₀ : Registers} {H₀ : Heap} {R : Registers} {s : State} (a : ℕ) (w : Val)
      → t ≤ a → Pre ns me d t S R₀ H₀ R s → Pre ns me d t S R₀ H₀ (write R a w) s
  scratch {R = R} a w l h =
      let b = h.room in
      record { room = h.room; frames = h.frames; stand = stand-write R a w (omega arith) h.stand; keep = keep-write R a w l h.keep; proper = h.proper; grows = h.grows }

  pub scratched : {ns : List (List ℕ)} {me v : Val} {t : ℕ} {R₀ : Registers} {H₀ : Heap} {R : Registers} {s : State} (a : ℕ) (w : Val)
      → free ns ≤ t → t < a → Post ns me t R₀ H₀ v s R → Post ns me t R₀ H₀ v s (write R a w)
  scratched {t = t} {R = R} a w b l φ =
      record {
        got = has_other R a t w (λ e. omega arith) φ.got;
        stand = stand-write R a w (omega arith) φ.stand;
        keep = keep-write R a w (omega arith) φ.keep;
        proper = φ.proper;
        fine = φ.fine;
        grows = φ.grows;
      }
