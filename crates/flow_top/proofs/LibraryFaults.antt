-- The status that tells the first fault of a library.
use Rattle.std.proofs.Common.{◌≡◌, ℕ, List, Result, Ok, Err, ◌⊎◌, inl, inr, refl, ap}
use Rattle.lib_core.specs.declared.library.Library.{Library as Lib}
use Rattle.lib_tree.specs.declared.fault.LibCode.{LibCode}
use Rattle.lib_tree.specs.declared.fault.LibCode.TheVariants as library
use Rattle.lib_tree.specs.declared.fault.LibFault.{LibFault}
use Rattle.lib_tree.specs.Reading.{GivesRead, FailsAt}
use Rattle.lib_read.specs.Reads.{LibReads, IsFault}
use Rattle.lib_read.specs.Limits.{IsWithinLimits}
use Rattle.flow_top.specs.Refusing.{RefusesLibrary, library_status, library_status_by}

ok_no_err : (lib : Lib) (f : LibFault) → ◌≡◌ {A = Result Lib LibFault} (Ok lib) (Err f) → ⊥
ok_no_err lib f e = cc

tells : (bytes : List ℕ) (c : LibCode) (f : LibFault) → f.code ≡ c → IsFault bytes f → ((lib : Lib) → LibReads bytes lib → IsWithinLimits lib → ◌≡◌ {A = Result Lib LibFault} (Ok lib) (Err f)) → RefusesLibrary bytes (library_status f)
tells bytes c f e first only =
    inr (record {
      fault = f;
      is_none = record { first = first; unread = λ lib reads within. ok_no_err lib f (only lib reads within) };
      status_is = refl;
    })

by_code : (bytes : List ℕ) (c : LibCode) (f : LibFault) → f.code ≡ c → IsFault bytes f → ((lib : Lib) → LibReads bytes lib → IsWithinLimits lib → FailsAt {X = Lib} c f (Ok lib)) → RefusesLibrary bytes (library_status f)
by_code bytes library.Memory f e first only = inl (ap (λ c. library_status_by c f.line f.seen) e)
by_code bytes library.Token f e first only = tells bytes library.Token f e first only
by_code bytes library.Unclosed f e first only = tells bytes library.Unclosed f e first only
by_code bytes library.UnknownWord f e first only = tells bytes library.UnknownWord f e first only
by_code bytes library.NotForKind f e first only = tells bytes library.NotForKind f e first only
by_code bytes library.Twice f e first only = tells bytes library.Twice f e first only
by_code bytes library.Missing f e first only = tells bytes library.Missing f e first only
by_code bytes library.BadWidths f e first only = tells bytes library.BadWidths f e first only
by_code bytes library.BadNumber f e first only = tells bytes library.BadNumber f e first only
by_code bytes library.Limit f e first only = tells bytes library.Limit f e first only

pub refuses_library : (bytes : List ℕ) (f : LibFault) → IsFault bytes f → ((lib : Lib) → LibReads bytes lib → IsWithinLimits lib → GivesRead {X = Lib} (Err f) (Ok lib)) → RefusesLibrary bytes (library_status f)
refuses_library bytes f first only = by_code bytes f.code f refl first only
