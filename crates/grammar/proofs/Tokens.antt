-- The token of each role, and the tokens of lists that grow at their end.
use Rattle.std.proofs.Common.{◌≡◌, ℕ, true, cond, eqb, List, [], ◌∷◌, ◌++◌, sym, refl, ap, ◌∙◌, eqb-true}
use Rattle.lexer.specs.Token.{Terminal, identifier, keyword, symbol}
use Rattle.lexer.specs.declared.token.Keyword.TheVariants as word
use Rattle.lexer.specs.declared.token.Symbol.TheVariants as sign
use Rattle.grammar.specs.Tree.{BareMethod}
use Rattle.grammar.specs.Grammar.{name_toks, method_toks, methods_toks, Formed, FormedMethods}
use Rattle.grammar.specs.Role.{Role, Leaf, Opening, Joint, Stop, role, code}

abbrev pub leaf_token : Leaf → Terminal
leaf_token (Leaf.int w) = Terminal.integer w
leaf_token (Leaf.string w) = Terminal.string w
leaf_token (Leaf.field x) = Terminal.field x
leaf_token Leaf.nil = keyword word.Nil
leaf_token Leaf.self = keyword word.SelfWord

abbrev pub opening_token : Opening → Terminal
opening_token Opening.if = keyword word.If
opening_token Opening.while = keyword word.While
opening_token Opening.new = keyword word.New

abbrev pub joint_token : Joint → Terminal
joint_token Joint.semicolon = symbol sign.Semicolon
joint_token Joint.equals = symbol sign.Equals
joint_token Joint.dot = symbol sign.Dot
joint_token Joint.instance_of = keyword word.InstanceOf

abbrev pub stop_token : Stop → Terminal
stop_token Stop.then = keyword word.Then
stop_token Stop.else = keyword word.Else
stop_token Stop.end = keyword word.End
stop_token Stop.do' = keyword word.Do
stop_token Stop.close = symbol sign.CloseParen
stop_token Stop.comma = symbol sign.Comma
stop_token Stop.open' = symbol sign.OpenParen
stop_token Stop.less = symbol sign.Less
stop_token Stop.class = keyword word.Class
stop_token Stop.begin = keyword word.Begin
stop_token Stop.def = keyword word.Def

-- the one token of a role
abbrev pub token : Role → Terminal
token (Role.name x) = identifier x
token (Role.leaf l) = leaf_token l
token (Role.opening o) = opening_token o
token (Role.joint j) = joint_token j
token (Role.stop s) = stop_token s

pub token-role : (t : Terminal) → token (role t) ≡ t
token-role (Terminal.identifier x) = refl
token-role (Terminal.integer w) = refl
token-role (Terminal.field x) = refl
token-role (Terminal.string w) = refl
token-role (Terminal.keyword word.Class) = refl
token-role (Terminal.keyword word.Begin) = refl
token-role (Terminal.keyword word.End) = refl
token-role (Terminal.keyword word.Def) = refl
token-role (Terminal.keyword word.If) = refl
token-role (Terminal.keyword word.Then) = refl
token-role (Terminal.keyword word.Else) = refl
token-role (Terminal.keyword word.While) = refl
token-role (Terminal.keyword word.Do) = refl
token-role (Terminal.keyword word.New) = refl
token-role (Terminal.keyword word.InstanceOf) = refl
token-role (Terminal.keyword word.SelfWord) = refl
token-role (Terminal.keyword word.Nil) = refl
token-role (Terminal.symbol sign.Dot) = refl
token-role (Terminal.symbol sign.Comma) = refl
token-role (Terminal.symbol sign.Semicolon) = refl
token-role (Terminal.symbol sign.OpenParen) = refl
token-role (Terminal.symbol sign.CloseParen) = refl
token-role (Terminal.symbol sign.Equals) = refl
token-role (Terminal.symbol sign.Less) = refl

abbrev stop_of : ℕ → Stop
stop_of n =
    cond (eqb n 0) Stop.then (cond (eqb n 1) Stop.else (cond (eqb n 2) Stop.end (cond (eqb n 3) Stop.do' (cond (eqb n 4) Stop.close (cond (eqb n 5) Stop.comma
    (cond (eqb n 6) Stop.open' (cond (eqb n 7) Stop.less (cond (eqb n 8) Stop.class (cond (eqb n 9) Stop.begin Stop.def)))))))))

stop-of-code : (s : Stop) → stop_of (code s) ≡ s
stop-of-code Stop.then = refl
stop-of-code Stop.else = refl
stop-of-code Stop.end = refl
stop-of-code Stop.do' = refl
stop-of-code Stop.close = refl
stop-of-code Stop.comma = refl
stop-of-code Stop.open' = refl
stop-of-code Stop.less = refl
stop-of-code Stop.class = refl
stop-of-code Stop.begin = refl
stop-of-code Stop.def = refl

pub same_stop : (a s : Stop) → eqb (code a) (code s) ≡ true → a ≡ s
same_stop a s e = sym (stop-of-code a) ∙ ap stop_of (eqb-true (code a) (code s) e) ∙ stop-of-code s

-- names, each with a comma behind it
abbrev pub lead_names : List (List ℕ) → List Terminal → List Terminal
lead_names [] r = r
lead_names (x ∷ xs) r = identifier x ∷ symbol sign.Comma ∷ lead_names xs r

pub names-last : (xs : List (List ℕ)) (x : List ℕ) (r : List Terminal) → name_toks (xs ++ (x ∷ [])) r ≡ lead_names xs (identifier x ∷ r)
names-last [] x r = refl
names-last (y ∷ []) x r = refl
names-last (y ∷ z ∷ zs) x r = ap (λ ts. identifier y ∷ symbol sign.Comma ∷ ts) (names-last (z ∷ zs) x r)

pub lead-last : (xs : List (List ℕ)) (x : List ℕ) (r : List Terminal) → lead_names (xs ++ (x ∷ [])) r ≡ lead_names xs (identifier x ∷ symbol sign.Comma ∷ r)
lead-last [] x r = refl
lead-last (y ∷ ys) x r = ap (λ ts. identifier y ∷ symbol sign.Comma ∷ ts) (lead-last ys x r)

pub methods-last : (ms : List BareMethod) (m : BareMethod) (r : List Terminal) → methods_toks (ms ++ (m ∷ [])) r ≡ methods_toks ms (method_toks m r)
methods-last [] m r = refl
methods-last (n ∷ ns) m r = ap (method_toks n) (methods-last ns m r)

pub formed-last : (ms : List BareMethod) (m : BareMethod) → FormedMethods ms → Formed m.body → FormedMethods (ms ++ (m ∷ []))
formed-last [] m h g = (g, tt)
formed-last (n ∷ ns) m h g = (h.0, formed-last ns m h.1 g)
