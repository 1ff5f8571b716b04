-- The value that is kept on the way over values is the topmost of them.
use Rattle.std.proofs.Common.{◌≡◌, zero, suc, true, false, cond, List, [], ◌∷◌, Some, refl, ap, ◌∙◌, subst, arith}
use Rattle.std.specs.Cmp.{IsTotalOrder}
use Rattle.std.specs.List.{All, Contains, fold}
use Rattle.std.specs.Option.{is_some}
use Rattle.std.specs.Ordering.{is_gt, is_lt, ordering_reverse}
use Rattle.std.specs.declared.cmp.Ordering.{Ordering}
use Rattle.std.specs.declared.cmp.Ordering.TheVariants.{Less, Equal, Greater}
use Rattle.std.proofs.lemmas.Cmp.{upto, tied_itself}
use Rattle.n1ql_value.specs.declared.datum.Datum.{Datum}
use Rattle.n1ql_value.specs.FunctionValues.{higher, topmost}
use Rattle.n1ql_funcs.specs.Topmost.{IsTopmost}

all_more : {X : Type 0} (P : X → Type 0) (x : X) (xs : List X) → P x → All P xs → All P (x ∷ xs)
all_more P x xs p all zero d h = p
all_more P x xs p all (suc k) d h = all k d (omega arith)

-- what is found on the way from one value on
record Goes (R : Datum → Datum → Ordering) (found : Datum) (ds : List Datum) : Type 0 where
  top : Datum
  is : fold (higher R) (Some found) ds ≡ Some top
  topmost : IsTopmost R (found ∷ ds) top

module _ {R : Datum → Datum → Ordering} (o : IsTotalOrder R) where
  -- a value d that isn't above the one that was found
  kept : (found d : Datum) (ds : List Datum) → is_lt (R found d) ≡ false → is_gt (R d found) ≡ false → Goes R found ds → Goes R found (d ∷ ds)
  kept found d ds same below g = record {
    top = g.top;
    is = ap (λ b. fold (higher R) (Some (cond b d found)) ds) same ∙ g.is;
    topmost = record {
      among = among_more g.topmost.among;
      above =
          let P : Datum → Type 0 = λ e. is_gt (R e g.top) ≡ false in
          let here : P found = g.topmost.above zero found (omega arith) in
          all_more P found (d ∷ ds) here (all_more P d ds (upto o d found g.top below here) (λ k e h. g.topmost.above (suc k) e (omega arith)));
    };
  }
    where
      among_more : Contains (found ∷ ds) g.top → Contains (found ∷ (d ∷ ds)) g.top
      among_more (zero, h, e) = (zero, omega arith, e)
      among_more (suc k, h, e) = (suc (suc k), omega arith, e)

  -- a value d that is above it
  passed : (found d : Datum) (ds : List Datum) → R found d ≡ Less → Goes R d ds → Goes R found (d ∷ ds)
  passed found d ds below g = record {
    top = g.top;
    is = ap (λ r. fold (higher R) (Some (cond (is_lt r) d found)) ds) below ∙ g.is;
    topmost = record {
      among = (suc g.topmost.among.0, omega arith, g.topmost.among.2);
      above =
          let P : Datum → Type 0 = λ e. is_gt (R e g.top) ≡ false in
          all_more P found (d ∷ ds) (upto o found d g.top (ap is_gt below) (g.topmost.above zero d (omega arith))) g.topmost.above;
    };
  }

  goes : (found : Datum) (ds : List Datum) → Goes R found ds
  goes found [] = record {
    top = found;
    is = refl;
    topmost = record {
      among = (zero, omega arith, refl);
      above = all_more (λ e. is_gt (R e found) ≡ false) found [] (ap is_gt (tied_itself o found)) (λ k e h. absurd (omega arith));
    };
  }
  goes found (d ∷ ds) = goes_by (goes found ds) (goes d ds) (R found d) refl
    where
      goes_by : Goes R found ds → Goes R d ds → (r : Ordering) → R found d ≡ r → Goes R found (d ∷ ds)
      goes_by stay go Less is = passed found d ds is go
      goes_by stay go Equal is = kept found d ds (ap is_lt is) (ap is_gt (o.antisymm d found ∙ ap ordering_reverse is)) stay
      goes_by stay go Greater is = kept found d ds (ap is_lt is) (ap is_gt (o.antisymm d found ∙ ap ordering_reverse is)) stay

  pub topmost-is : (ds : List Datum) (top : Datum) → topmost R ds ≡ Some top → IsTopmost R ds top
  topmost-is [] top e = absurd (cc)
  topmost-is (d ∷ ds) top e =
      let g : Goes R d ds = goes d ds in
      let same : g.top ≡ top = cc (g.is, e) in
      let P : Datum → Type 0 = λ t. IsTopmost R (d ∷ ds) t in
      subst P same g.topmost

stays : (R : Datum → Datum → Ordering) (found : Datum) (ds : List Datum) → is_some (fold (higher R) (Some found) ds) ≡ true
stays R found [] = refl
stays R found (d ∷ ds) = stays R (cond (is_lt (R found d)) d found) ds

pub topmost-there : (R : Datum → Datum → Ordering) (d : Datum) (ds : List Datum) → is_some (topmost R (d ∷ ds)) ≡ true
topmost-there R d ds = stays R d ds
