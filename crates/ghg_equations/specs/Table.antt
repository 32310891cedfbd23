-- The table of equations: of each code its sector, its parameters, its output and its expression.
-- Source: 2006 IPCC Guidelines, Volumes 2 to 5.
use Rattle.std.specs.Prelude.{ℕ, ◌+◌, List, [], ◌∷◌, map, codes, Option}
use Rattle.std.specs.List.{find}
use Rattle.std.specs.Str.{bytes_eq}
use Rattle.ghg_equations.specs.declared.eq_id.EqId.{EqId}
use Rattle.ghg_equations.specs.declared.eq_id.EqId.TheVariants as q
use Rattle.ghg_equations.specs.declared.eq_id.TheConstants.EqId.{ALL}
use Rattle.ghg_equations.specs.declared.quantity.Dim.{Dim}
use Rattle.ghg_equations.specs.declared.quantity.Dim.TheVariants.{Mass, Energy, Area, Volume, Head, Person, Ratio, Day, EnFac, CarCon, Calor, GasVol, FluidFac, HeadFac, HeadDay, HeadEn, Excr, Yield, AreaFac, AreaDay, VolArea, Wood, PersFac, PersDay, Carbon, Gas, AnMin, Slope, Decay}
use Rattle.ghg_equations.specs.declared.quantity.Gas.TheVariants.{Co2, Ch4, N2o, Cf4, C2f6}
use Rattle.ghg_equations.specs.declared.quantity.Output.{Output}
use Rattle.ghg_equations.specs.declared.quantity.Output.TheVariants.{Emission, Aux}
use Rattle.ghg_equations.specs.declared.row.Equation.{Equation}
use Rattle.ghg_equations.specs.declared.sector.Sector.{Sector}
use Rattle.ghg_equations.specs.declared.sector.Sector.TheVariants as sector
use Rattle.ghg_equations.specs.Expression.{Expression, Parameter, Whole, Scaled, ◌⊕◌, ◌⊖◌, ◌⊗◌}

-- a parameter: its name and what it measures
pub record Quantity : Type 0 where
  pub name : List ℕ
  pub dim : Dim

infix 50 ◌of◌
abbrev pub ◌of◌ : List ℕ → Dim → Quantity
name of dim = record { name = name; dim = dim }

-- parameters, and what is computed of them
pub record Formula : Type 0 where
  pub parameters : List Quantity
  pub output : Output
  pub expression : Expression

abbrev with_parameter : Quantity → Formula → Formula
with_parameter q f = record f { parameters = q ∷ f.parameters }

-- a parameter, which what follows takes by its place
infixr 40 ◌▸◌
abbrev ◌▸◌ : Quantity → (Expression → ℕ → Formula) → ℕ → Formula
◌▸◌ q rest place = with_parameter q (rest (Parameter place) (place + 1))

-- the output, and its expression over the parameters before it
infix 45 ◌is◌
abbrev ◌is◌ : Output → Expression → ℕ → Formula
◌is◌ output e place = record { parameters = []; output = output; expression = e }

-- what the table says of a code
pub record Entry : Type 0 where
  pub code : List ℕ
  pub sector : Sector
  pub formula : Formula

abbrev equation : List ℕ → Sector → (ℕ → Formula) → Entry
equation code sector formula = record { code = code; sector = sector; formula = formula 0 }

-- Grouped as the table writes it, since rounding depends on the order of operations.
abbrev pub entry : EqId → Entry
-- Fuel combustion: Volume 2, Equation 2.1.
entry q.Q10 = equation (codes "Q10") sector.Energy (
    codes "FC" of Energy ▸ λ FC. codes "EF" of EnFac ▸ λ EF. Emission Co2 is Scaled (FC ⊗ EF) 1 1000000)
entry q.Q11 = equation (codes "Q11") sector.Energy (
    codes "FC" of Energy ▸ λ FC. codes "EF" of EnFac ▸ λ EF. Emission Ch4 is Scaled (FC ⊗ EF) 1 1000000)
entry q.Q12 = equation (codes "Q12") sector.Energy (
    codes "FC" of Energy ▸ λ FC. codes "EF" of EnFac ▸ λ EF. Emission N2o is Scaled (FC ⊗ EF) 1 1000000)
-- The energy of a mass of fuel, by its calorific value: no numbered equation.
entry q.Q13 = equation (codes "Q13") sector.Energy (
    codes "FM" of Mass ▸ λ FM. codes "NCV" of Calor ▸ λ NCV. Aux Energy is Scaled FM 1 1000 ⊗ NCV)
-- Coal mining: Volume 2, chapter 4, Tier 1, with 0.67 kg of CH4 in a m3.
entry q.Q14 = equation (codes "Q14") sector.Energy (
    codes "P" of Mass ▸ λ P. codes "EF" of GasVol ▸ λ EF.
    Emission Ch4 is Scaled (Scaled (P ⊗ EF) 67 100) 1 1000000)
-- Oil and natural gas: Volume 2, Equation 4.2.1.
entry q.Q15 = equation (codes "Q15") sector.Energy (
    codes "A" of Volume ▸ λ A. codes "EF" of FluidFac ▸ λ EF. Emission Ch4 is Scaled (A ⊗ EF) 1 1000000)
entry q.Q16 = equation (codes "Q16") sector.Energy (
    codes "A" of Volume ▸ λ A. codes "EF" of FluidFac ▸ λ EF. Emission Co2 is Scaled (A ⊗ EF) 1 1000000)
entry q.Q17 = equation (codes "Q17") sector.Energy (
    codes "A" of Volume ▸ λ A. codes "EF" of FluidFac ▸ λ EF. Emission N2o is Scaled (A ⊗ EF) 1 1000000)
-- The reference approach: Volume 2, Equations 6.1 to 6.4.
entry q.Q20 = equation (codes "Q20") sector.Energy (
    codes "PR" of Mass ▸ λ PR. codes "IM" of Mass ▸ λ IM. codes "EX" of Mass ▸ λ EX.
    codes "IB" of Mass ▸ λ IB. codes "SC" of Mass ▸ λ SC. Aux Mass is PR ⊕ IM ⊖ EX ⊖ IB ⊖ SC)
entry q.Q21 = equation (codes "Q21") sector.Energy (
    codes "IM" of Mass ▸ λ IM. codes "EX" of Mass ▸ λ EX. codes "IB" of Mass ▸ λ IB.
    codes "SC" of Mass ▸ λ SC. Aux Mass is IM ⊖ EX ⊖ IB ⊖ SC)
entry q.Q22 = equation (codes "Q22") sector.Energy (
    codes "PR" of Energy ▸ λ PR. codes "IM" of Energy ▸ λ IM. codes "EX" of Energy ▸ λ EX.
    codes "IB" of Energy ▸ λ IB. codes "SC" of Energy ▸ λ SC. Aux Energy is PR ⊕ IM ⊖ EX ⊖ IB ⊖ SC)
entry q.Q23 = equation (codes "Q23") sector.Energy (
    codes "IM" of Energy ▸ λ IM. codes "EX" of Energy ▸ λ EX. codes "IB" of Energy ▸ λ IB.
    codes "SC" of Energy ▸ λ SC. Aux Energy is IM ⊖ EX ⊖ IB ⊖ SC)
entry q.Q24 = equation (codes "Q24") sector.Energy (
    codes "A" of Energy ▸ λ A. codes "CC" of CarCon ▸ λ CC. Aux Carbon is Scaled (A ⊗ CC) 1 1000)
entry q.Q25 = equation (codes "Q25") sector.Energy (
    codes "AC" of Mass ▸ λ AC. codes "CONV" of Calor ▸ λ CONV. codes "CC" of CarCon ▸ λ CC.
    codes "XC" of Carbon ▸ λ XC. codes "COF" of Ratio ▸ λ COF.
    Emission Co2 is Scaled ((Scaled (Scaled AC 1 1000 ⊗ CONV ⊗ CC) 1 1000 ⊖ XC) ⊗ COF) 44 12)
entry q.Q26 = equation (codes "Q26") sector.Energy (
    codes "AC" of Energy ▸ λ AC. codes "CC" of CarCon ▸ λ CC. codes "XC" of Carbon ▸ λ XC.
    codes "COF" of Ratio ▸ λ COF. Emission Co2 is Scaled ((Scaled (AC ⊗ CC) 1 1000 ⊖ XC) ⊗ COF) 44 12)
-- Cement: Volume 3, Equations 2.1 and 2.2.
entry q.Q30 = equation (codes "Q30") sector.Industry (
    codes "MC" of Mass ▸ λ MC. codes "CCL" of Ratio ▸ λ CCL. Aux Mass is MC ⊗ CCL)
entry q.Q31 = equation (codes "Q31") sector.Industry (
    codes "CL" of Mass ▸ λ CL. codes "IM" of Mass ▸ λ IM. codes "EX" of Mass ▸ λ EX.
    codes "EF" of Ratio ▸ λ EF. Emission Co2 is Scaled ((CL ⊖ IM ⊕ EX) ⊗ EF) 1 1000)
entry q.Q32 = equation (codes "Q32") sector.Industry (
    codes "MCL" of Mass ▸ λ MCL. codes "EF" of Ratio ▸ λ EF. codes "CF" of Ratio ▸ λ CF.
    Emission Co2 is Scaled (MCL ⊗ EF ⊗ CF) 1 1000)
-- Lime: Volume 3, Equation 2.6.
entry q.Q33 = equation (codes "Q33") sector.Industry (
    codes "EF" of Ratio ▸ λ EF. codes "ML" of Mass ▸ λ ML. codes "CF" of Ratio ▸ λ CF.
    codes "CH" of Ratio ▸ λ CH. Emission Co2 is Scaled (EF ⊗ ML ⊗ CF ⊗ CH) 1 1000)
-- Glass: Volume 3, Equations 2.10 and 2.11.
entry q.Q34 = equation (codes "Q34") sector.Industry (
    codes "MG" of Mass ▸ λ MG. codes "EF" of Ratio ▸ λ EF. codes "CR" of Ratio ▸ λ CR.
    Emission Co2 is Scaled (MG ⊗ EF ⊗ (Whole 1 ⊖ CR)) 1 1000)
-- Carbonates in other uses: Volume 3, Equations 2.14 and 2.15.
entry q.Q35 = equation (codes "Q35") sector.Industry (
    codes "M" of Mass ▸ λ M. codes "EFLS" of Ratio ▸ λ EFLS. codes "EFD" of Ratio ▸ λ EFD.
    Emission Co2 is Scaled (M ⊗ (Scaled EFLS 85 100 ⊕ Scaled EFD 15 100)) 1 1000)
entry q.Q36 = equation (codes "Q36") sector.Industry (
    codes "MLS" of Mass ▸ λ MLS. codes "EFLS" of Ratio ▸ λ EFLS. codes "MD" of Mass ▸ λ MD.
    codes "EFD" of Ratio ▸ λ EFD. Emission Co2 is Scaled (MLS ⊗ EFLS ⊕ MD ⊗ EFD) 1 1000)
-- Ammonia: Volume 3, Equation 3.1.
entry q.Q37 = equation (codes "Q37") sector.Industry (
    codes "AP" of Mass ▸ λ AP. codes "FR" of Calor ▸ λ FR. codes "CCF" of CarCon ▸ λ CCF.
    codes "COF" of Ratio ▸ λ COF. codes "R" of Gas ▸ λ R.
    Emission Co2 is Scaled (Scaled (AP ⊗ FR ⊗ CCF ⊗ COF) 44 12) 1 1000000 ⊖ R)
-- Nitric and adipic acid: Volume 3, Equations 3.5 to 3.8.
entry q.Q38 = equation (codes "Q38") sector.Industry (
    codes "EF" of Ratio ▸ λ EF. codes "P" of Mass ▸ λ P. Emission N2o is Scaled (EF ⊗ P) 1 1000)
entry q.Q39 = equation (codes "Q39") sector.Industry (
    codes "EF" of Ratio ▸ λ EF. codes "P" of Mass ▸ λ P. codes "DF" of Ratio ▸ λ DF.
    codes "ASUF" of Ratio ▸ λ ASUF. Emission N2o is Scaled (EF ⊗ P ⊗ (Whole 1 ⊖ DF ⊗ ASUF)) 1 1000)
-- Steel: Volume 3, Equation 4.4.
entry q.Q40 = equation (codes "Q40") sector.Industry (
    codes "BOF" of Mass ▸ λ BOF. codes "EFB" of Ratio ▸ λ EFB. codes "EAF" of Mass ▸ λ EAF.
    codes "EFE" of Ratio ▸ λ EFE. codes "OHF" of Mass ▸ λ OHF. codes "EFO" of Ratio ▸ λ EFO.
    Emission Co2 is Scaled (BOF ⊗ EFB ⊕ EAF ⊗ EFE ⊕ OHF ⊗ EFO) 1 1000)
-- Aluminium: Volume 3, Equations 4.20, 4.25 and 4.26.
entry q.Q41 = equation (codes "Q41") sector.Industry (
    codes "EFP" of Ratio ▸ λ EFP. codes "MPP" of Mass ▸ λ MPP. codes "EFS" of Ratio ▸ λ EFS.
    codes "MPS" of Mass ▸ λ MPS. Emission Co2 is Scaled (EFP ⊗ MPP ⊕ EFS ⊗ MPS) 1 1000)
entry q.Q42 = equation (codes "Q42") sector.Industry (
    codes "EF" of Ratio ▸ λ EF. codes "MP" of Mass ▸ λ MP. Emission Cf4 is Scaled (EF ⊗ MP) 1 1000)
entry q.Q44 = equation (codes "Q44") sector.Industry (
    codes "S" of Slope ▸ λ S. codes "AEM" of AnMin ▸ λ AEM. codes "MP" of Mass ▸ λ MP.
    Emission Cf4 is Scaled (S ⊗ AEM ⊗ MP) 1 1000000)
entry q.Q45 = equation (codes "Q45") sector.Industry (
    codes "CF" of Gas ▸ λ CF. codes "F" of Ratio ▸ λ F. Emission C2f6 is CF ⊗ F)
-- Lubricants and waxes: Volume 3, Equations 5.2 and 5.4.
entry q.Q46 = equation (codes "Q46") sector.Industry (
    codes "LC" of Energy ▸ λ LC. codes "CC" of CarCon ▸ λ CC. codes "ODU" of Ratio ▸ λ ODU.
    Emission Co2 is Scaled (Scaled (LC ⊗ CC ⊗ ODU) 44 12) 1 1000)
-- Methane of livestock: Volume 4, Equations 10.19 and 10.21 to 10.23, with 55.65 MJ in a kg of CH4 and 0.67
-- kg of it in a m3.
entry q.Q55 = equation (codes "Q55") sector.Livestock (
    codes "EF" of HeadFac ▸ λ EF. codes "N" of Head ▸ λ N. Emission Ch4 is Scaled (EF ⊗ N) 1 1000000)
entry q.Q56 = equation (codes "Q56") sector.Livestock (
    codes "GE" of HeadEn ▸ λ GE. codes "YM" of Ratio ▸ λ YM. Aux HeadFac is Scaled (GE ⊗ YM) 36500 5565)
entry q.Q57 = equation (codes "Q57") sector.Livestock (
    codes "MCF" of Ratio ▸ λ MCF. codes "MS" of Ratio ▸ λ MS. Aux Ratio is MCF ⊗ MS)
entry q.Q58 = equation (codes "Q58") sector.Livestock (
    codes "VS" of HeadDay ▸ λ VS. codes "BO" of Yield ▸ λ BO. codes "SM" of Ratio ▸ λ SM.
    Aux HeadFac is Scaled VS 365 1 ⊗ (Scaled BO 67 100 ⊗ SM))
-- Nitrogen of manure: Volume 4, Equations 10.25 to 10.30, 10.34 and 11.5.
entry q.Q59 = equation (codes "Q59") sector.Livestock (
    codes "N" of Head ▸ λ N. codes "NEX" of HeadFac ▸ λ NEX. codes "MS" of Ratio ▸ λ MS.
    codes "EF3" of Ratio ▸ λ EF3. Emission N2o is Scaled (Scaled (N ⊗ NEX ⊗ MS ⊗ EF3) 44 28) 1 1000000)
entry q.Q60 = equation (codes "Q60") sector.Livestock (
    codes "N" of Head ▸ λ N. codes "NEX" of HeadFac ▸ λ NEX. codes "MS" of Ratio ▸ λ MS.
    codes "FR" of Ratio ▸ λ FR. Aux Mass is Scaled (N ⊗ NEX ⊗ MS ⊗ FR) 1 1000)
entry q.Q61 = equation (codes "Q61") sector.Livestock (
    codes "NV" of Mass ▸ λ NV. codes "EF" of Ratio ▸ λ EF.
    Emission N2o is Scaled (Scaled (NV ⊗ EF) 44 28) 1 1000)
entry q.Q62 = equation (codes "Q62") sector.Livestock (
    codes "NR" of Excr ▸ λ NR. codes "TAM" of HeadFac ▸ λ TAM.
    Aux HeadFac is Scaled (Scaled (NR ⊗ TAM) 1 1000) 365 1)
entry q.Q63 = equation (codes "Q63") sector.Livestock (
    codes "N" of Head ▸ λ N. codes "NEX" of HeadFac ▸ λ NEX. codes "MS" of Ratio ▸ λ MS.
    codes "FL" of Ratio ▸ λ FL. codes "NB" of HeadFac ▸ λ NB.
    Aux Mass is Scaled (N ⊗ NEX ⊗ MS ⊗ (Whole 1 ⊖ FL) ⊕ N ⊗ MS ⊗ NB) 1 1000)
entry q.Q64 = equation (codes "Q64") sector.Livestock (
    codes "N" of Head ▸ λ N. codes "NEX" of HeadFac ▸ λ NEX. codes "MS" of Ratio ▸ λ MS.
    Aux Mass is Scaled (N ⊗ NEX ⊗ MS) 1 1000)
-- Nitrogen in soils: Volume 4, Equations 11.1, 11.3, 11.4, 11.9 and 11.10.
entry q.Q67 = equation (codes "Q67") sector.Soils (
    codes "FAM" of Mass ▸ λ FAM. codes "FSEW" of Mass ▸ λ FSEW. codes "FCOMP" of Mass ▸ λ FCOMP.
    codes "FOOA" of Mass ▸ λ FOOA. Aux Mass is FAM ⊕ FSEW ⊕ FCOMP ⊕ FOOA)
entry q.Q68 = equation (codes "Q68") sector.Soils (
    codes "NA" of Mass ▸ λ NA. codes "FF" of Ratio ▸ λ FF. codes "FU" of Ratio ▸ λ FU.
    codes "FC" of Ratio ▸ λ FC. Aux Mass is NA ⊗ (Whole 1 ⊖ (FF ⊕ FU ⊕ FC)))
entry q.Q69 = equation (codes "Q69") sector.Soils (
    codes "FSN" of Mass ▸ λ FSN. codes "FON" of Mass ▸ λ FON. codes "FCR" of Mass ▸ λ FCR.
    codes "FSOM" of Mass ▸ λ FSOM. codes "EF1" of Ratio ▸ λ EF1.
    Emission N2o is Scaled (Scaled ((FSN ⊕ FON ⊕ FCR ⊕ FSOM) ⊗ EF1) 44 28) 1 1000)
entry q.Q70 = equation (codes "Q70") sector.Soils (
    codes "A" of Area ▸ λ A. codes "EF2" of AreaFac ▸ λ EF2.
    Emission N2o is Scaled (Scaled (A ⊗ EF2) 44 28) 1 1000)
entry q.Q71 = equation (codes "Q71") sector.Soils (
    codes "FP" of Mass ▸ λ FP. codes "EF3" of Ratio ▸ λ EF3.
    Emission N2o is Scaled (Scaled (FP ⊗ EF3) 44 28) 1 1000)
entry q.Q72 = equation (codes "Q72") sector.Soils (
    codes "FSN" of Mass ▸ λ FSN. codes "FG" of Ratio ▸ λ FG. codes "FON" of Mass ▸ λ FON.
    codes "FP" of Mass ▸ λ FP. codes "FM" of Ratio ▸ λ FM. codes "EF4" of Ratio ▸ λ EF4.
    Emission N2o is Scaled (Scaled ((FSN ⊗ FG ⊕ (FON ⊕ FP) ⊗ FM) ⊗ EF4) 44 28) 1 1000)
entry q.Q73 = equation (codes "Q73") sector.Soils (
    codes "FSN" of Mass ▸ λ FSN. codes "FON" of Mass ▸ λ FON. codes "FP" of Mass ▸ λ FP.
    codes "FCR" of Mass ▸ λ FCR. codes "FSOM" of Mass ▸ λ FSOM. codes "FL" of Ratio ▸ λ FL.
    codes "EF5" of Ratio ▸ λ EF5.
    Emission N2o is Scaled (Scaled ((FSN ⊕ FON ⊕ FP ⊕ FCR ⊕ FSOM) ⊗ FL ⊗ EF5) 44 28) 1 1000)
-- Lime and urea on soils: Volume 4, Equations 11.12 and 11.13.
entry q.Q74 = equation (codes "Q74") sector.Soils (
    codes "ML" of Mass ▸ λ ML. codes "EFL" of Ratio ▸ λ EFL. codes "MD" of Mass ▸ λ MD.
    codes "EFD" of Ratio ▸ λ EFD. Emission Co2 is Scaled (Scaled (ML ⊗ EFL ⊕ MD ⊗ EFD) 44 12) 1 1000)
entry q.Q75 = equation (codes "Q75") sector.Soils (
    codes "M" of Mass ▸ λ M. codes "EF" of Ratio ▸ λ EF.
    Emission Co2 is Scaled (Scaled (M ⊗ EF) 44 12) 1 1000)
-- Rice: Volume 4, Equations 5.1 and 5.2.
entry q.Q76 = equation (codes "Q76") sector.Soils (
    codes "EFC" of AreaDay ▸ λ EFC. codes "SFW" of Ratio ▸ λ SFW. codes "SFP" of Ratio ▸ λ SFP.
    codes "SFO" of Ratio ▸ λ SFO. codes "SFS" of Ratio ▸ λ SFS. Aux AreaDay is EFC ⊗ SFW ⊗ SFP ⊗ SFO ⊗ SFS)
entry q.Q77 = equation (codes "Q77") sector.Soils (
    codes "EF" of AreaDay ▸ λ EF. codes "T" of Day ▸ λ T. codes "A" of Area ▸ λ A.
    Emission Ch4 is Scaled (EF ⊗ T ⊗ A) 1 1000000)
-- Gains and losses of biomass: Volume 4, Equations 2.9, 2.10 and 2.12 to 2.14.
entry q.Q78 = equation (codes "Q78") sector.Land (
    codes "A" of Area ▸ λ A. codes "GW" of AreaFac ▸ λ GW. codes "R" of Ratio ▸ λ R.
    codes "CF" of Ratio ▸ λ CF. Aux Carbon is Scaled (A ⊗ GW ⊗ (Whole 1 ⊕ R) ⊗ CF) 1 1000)
entry q.Q79 = equation (codes "Q79") sector.Land (
    codes "A" of Area ▸ λ A. codes "IV" of VolArea ▸ λ IV. codes "BCEF" of Wood ▸ λ BCEF.
    codes "R" of Ratio ▸ λ R. codes "CF" of Ratio ▸ λ CF.
    Aux Carbon is Scaled (A ⊗ IV ⊗ BCEF ⊗ (Whole 1 ⊕ R) ⊗ CF) 1 1000)
entry q.Q80 = equation (codes "Q80") sector.Land (
    codes "H" of Volume ▸ λ H. codes "BCEF" of Wood ▸ λ BCEF. codes "R" of Ratio ▸ λ R.
    codes "CF" of Ratio ▸ λ CF. Aux Carbon is Scaled (H ⊗ BCEF ⊗ (Whole 1 ⊕ R) ⊗ CF) 1 1000)
entry q.Q81 = equation (codes "Q81") sector.Land (
    codes "FT" of Volume ▸ λ FT. codes "BCEF" of Wood ▸ λ BCEF. codes "R" of Ratio ▸ λ R.
    codes "FP" of Volume ▸ λ FP. codes "D" of Wood ▸ λ D. codes "CF" of Ratio ▸ λ CF.
    Aux Carbon is Scaled ((FT ⊗ BCEF ⊗ (Whole 1 ⊕ R) ⊕ FP ⊗ D) ⊗ CF) 1 1000)
entry q.Q82 = equation (codes "Q82") sector.Land (
    codes "A" of Area ▸ λ A. codes "BW" of AreaFac ▸ λ BW. codes "R" of Ratio ▸ λ R.
    codes "CF" of Ratio ▸ λ CF. codes "FD" of Ratio ▸ λ FD.
    Aux Carbon is Scaled (A ⊗ BW ⊗ (Whole 1 ⊕ R) ⊗ CF ⊗ FD) 1 1000)
-- Changes of carbon stocks: Volume 4, Equations 2.7, 2.25 and 2.26, with 20 years from one stock to
-- another.
entry q.Q83 = equation (codes "Q83") sector.Land (
    codes "G" of Carbon ▸ λ G. codes "L" of Carbon ▸ λ L. Aux Carbon is G ⊖ L)
entry q.Q84 = equation (codes "Q84") sector.Land (
    codes "C" of Carbon ▸ λ C. Emission Co2 is Scaled (Whole 0 ⊖ C) 44 12)
entry q.Q85 = equation (codes "Q85") sector.Land (
    codes "SREF" of AreaFac ▸ λ SREF. codes "FLU" of Ratio ▸ λ FLU. codes "FMG" of Ratio ▸ λ FMG.
    codes "FI" of Ratio ▸ λ FI. codes "A" of Area ▸ λ A.
    Aux Carbon is Scaled (SREF ⊗ FLU ⊗ FMG ⊗ FI ⊗ A) 1 1000)
entry q.Q86 = equation (codes "Q86") sector.Land (
    codes "S0" of Carbon ▸ λ S0. codes "ST" of Carbon ▸ λ ST. Aux Carbon is Scaled (S0 ⊖ ST) 1 20)
entry q.Q87 = equation (codes "Q87") sector.Land (
    codes "A" of Area ▸ λ A. codes "EF" of AreaFac ▸ λ EF. Aux Carbon is Scaled (A ⊗ EF) 1 1000)
-- Fires: Volume 4, Equation 2.27.
entry q.Q88 = equation (codes "Q88") sector.Land (
    codes "A" of Area ▸ λ A. codes "MB" of AreaFac ▸ λ MB. codes "CB" of Ratio ▸ λ CB.
    codes "GEF" of Ratio ▸ λ GEF. Emission Ch4 is Scaled (A ⊗ MB ⊗ CB ⊗ GEF) 1 1000)
entry q.Q89 = equation (codes "Q89") sector.Land (
    codes "A" of Area ▸ λ A. codes "MB" of AreaFac ▸ λ MB. codes "CB" of Ratio ▸ λ CB.
    codes "GEF" of Ratio ▸ λ GEF. Emission N2o is Scaled (A ⊗ MB ⊗ CB ⊗ GEF) 1 1000)
-- Landfills: Volume 5, Equations 3.1, 3.2 and 3.4 to 3.6. The previous year's stock decays.
entry q.Q90 = equation (codes "Q90") sector.Waste (
    codes "W" of Mass ▸ λ W. codes "DOC" of Ratio ▸ λ DOC. codes "DOCF" of Ratio ▸ λ DOCF.
    codes "MCF" of Ratio ▸ λ MCF. Aux Carbon is Scaled (W ⊗ DOC ⊗ DOCF ⊗ MCF) 1 1000)
entry q.Q91 = equation (codes "Q91") sector.Waste (
    codes "DEP" of Carbon ▸ λ DEP. codes "PREV" of Carbon ▸ λ PREV. codes "D" of Decay ▸ λ D.
    Aux Carbon is DEP ⊕ PREV ⊗ D)
entry q.Q92 = equation (codes "Q92") sector.Waste (
    codes "PREV" of Carbon ▸ λ PREV. codes "D" of Decay ▸ λ D. Aux Carbon is PREV ⊗ (Whole 1 ⊖ D))
entry q.Q93 = equation (codes "Q93") sector.Waste (
    codes "DEC" of Carbon ▸ λ DEC. codes "F" of Ratio ▸ λ F. Aux Gas is Scaled (DEC ⊗ F) 16 12)
entry q.Q94 = equation (codes "Q94") sector.Waste (
    codes "GEN" of Gas ▸ λ GEN. codes "R" of Gas ▸ λ R. codes "OX" of Ratio ▸ λ OX.
    Emission Ch4 is (GEN ⊖ R) ⊗ (Whole 1 ⊖ OX))
-- Biological treatment: Volume 5, Equations 4.1 and 4.2.
entry q.Q95 = equation (codes "Q95") sector.Waste (
    codes "M" of Mass ▸ λ M. codes "EF" of Ratio ▸ λ EF. codes "R" of Gas ▸ λ R.
    Emission Ch4 is Scaled (M ⊗ EF) 1 1000 ⊖ R)
entry q.Q96 = equation (codes "Q96") sector.Waste (
    codes "M" of Mass ▸ λ M. codes "EF" of Ratio ▸ λ EF. Emission N2o is Scaled (M ⊗ EF) 1 1000)
-- Incineration and open burning: Volume 5, Equation 5.1.
entry q.Q97 = equation (codes "Q97") sector.Waste (
    codes "SW" of Mass ▸ λ SW. codes "DM" of Ratio ▸ λ DM. codes "CF" of Ratio ▸ λ CF.
    codes "FCF" of Ratio ▸ λ FCF. codes "OF" of Ratio ▸ λ OF.
    Emission Co2 is Scaled (Scaled (SW ⊗ DM ⊗ CF ⊗ FCF ⊗ OF) 44 12) 1 1000)
-- Wastewater: Volume 5, Equations 6.1 to 6.3, 6.7 and 6.8.
entry q.Q98 = equation (codes "Q98") sector.Waste (
    codes "BO" of Ratio ▸ λ BO. codes "MCF" of Ratio ▸ λ MCF. Aux Ratio is BO ⊗ MCF)
entry q.Q99 = equation (codes "Q99") sector.Waste (
    codes "P" of Person ▸ λ P. codes "BOD" of PersDay ▸ λ BOD. codes "I" of Ratio ▸ λ I.
    Aux Mass is Scaled (Scaled (Scaled (P ⊗ BOD) 1 1000 ⊗ I) 365 1) 1 1000)
entry q.Q100 = equation (codes "Q100") sector.Waste (
    codes "X" of Ratio ▸ λ X. codes "TOW" of Mass ▸ λ TOW. codes "S" of Mass ▸ λ S.
    codes "R" of Gas ▸ λ R. Emission Ch4 is Scaled (X ⊗ (TOW ⊖ S)) 1 1000 ⊖ R)
entry q.Q101 = equation (codes "Q101") sector.Waste (
    codes "U" of Ratio ▸ λ U. codes "T" of Ratio ▸ λ T. codes "EF" of Ratio ▸ λ EF.
    Aux Ratio is U ⊗ T ⊗ EF)
entry q.Q102 = equation (codes "Q102") sector.Waste (
    codes "P" of Person ▸ λ P. codes "PR" of PersFac ▸ λ PR. codes "FNPR" of Ratio ▸ λ FNPR.
    codes "FNON" of Ratio ▸ λ FNON. codes "FIND" of Ratio ▸ λ FIND. codes "NS" of Mass ▸ λ NS.
    Aux Mass is Scaled (P ⊗ PR ⊗ FNPR ⊗ FNON ⊗ FIND) 1 1000 ⊖ NS)
entry q.Q103 = equation (codes "Q103") sector.Waste (
    codes "N" of Mass ▸ λ N. codes "EF" of Ratio ▸ λ EF.
    Emission N2o is Scaled (Scaled (N ⊗ EF) 44 28) 1 1000)

-- the code as it is written
abbrev pub code : EqId → List ℕ
code id = (entry id).code

-- the sector whose crate has the call
abbrev pub sector_of : EqId → Sector
sector_of id = (entry id).sector

abbrev pub parameters : EqId → List Quantity
parameters id = (entry id).formula.parameters

abbrev pub output : EqId → Output
output id = (entry id).formula.output

abbrev pub expression : EqId → Expression
expression id = (entry id).formula.expression

-- what a row in the code says: all but the expression
pub record Row : Type 0 where
  pub id : EqId
  pub code : List ℕ
  pub sector : Sector
  pub parameters : List Quantity
  pub output : Output

abbrev pub row : EqId → Row
row id = record {
  id = id;
  code = code id;
  sector = sector_of id;
  parameters = parameters id;
  output = output id;
}

abbrev pub seen : Equation → Row
seen e = record {
  id = e.id;
  code = e.name.now;
  sector = e.sector;
  parameters = map (λ p. p.name.now of p.dim) e.params.now;
  output = e.output;
}

-- the code that a text is
unfoldable pub named : List ℕ → Option EqId
named text = find (λ id. bytes_eq (code id) text) ALL.now
