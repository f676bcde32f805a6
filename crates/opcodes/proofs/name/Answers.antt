-- Each arm is the name of its opcode; the last is for the bytes that have none. Assumes nothing.
use mathlib.Core.Path.{refl}
use Rattle.std.proofs.Common.{rules}
use Rattle.opcodes.specs.Names.{lookup, op_names, op_name}
use Rattle.opcodes.specs.Text.{as_bytes}
use Rattle.opcodes.proofs.Naming.{named, unnamed}
use Rattle.opcodes.proofs.name.Goals as goal

pub returns-in-0 : goal.returns-in-0
unfolding op_name op_names lookup as_bytes
returns-in-0 c = named c.in-0.is refl

pub returns-in-1 : goal.returns-in-1
unfolding op_name op_names lookup as_bytes
returns-in-1 c = named c.in-1.is refl

pub returns-in-2 : goal.returns-in-2
unfolding op_name op_names lookup as_bytes
returns-in-2 c = named c.in-2.is refl

pub returns-in-3 : goal.returns-in-3
unfolding op_name op_names lookup as_bytes
returns-in-3 c = named c.in-3.is refl

pub returns-in-4 : goal.returns-in-4
unfolding op_name op_names lookup as_bytes
returns-in-4 c = named c.in-4.is refl

pub returns-in-5 : goal.returns-in-5
unfolding op_name op_names lookup as_bytes
returns-in-5 c = named c.in-5.is refl

pub returns-in-6 : goal.returns-in-6
unfolding op_name op_names lookup as_bytes
returns-in-6 c = named c.in-6.is refl

pub returns-in-7 : goal.returns-in-7
unfolding op_name op_names lookup as_bytes
returns-in-7 c = named c.in-7.is refl

pub returns-in-8 : goal.returns-in-8
unfolding op_name op_names lookup as_bytes
returns-in-8 c = named c.in-8.is refl

pub returns-in-9 : goal.returns-in-9
unfolding op_name op_names lookup as_bytes
returns-in-9 c = named c.in-9.is refl

pub returns-in-10 : goal.returns-in-10
unfolding op_name op_names lookup as_bytes
returns-in-10 c = named c.in-10.is refl

pub returns-in-11 : goal.returns-in-11
unfolding op_name op_names lookup as_bytes
returns-in-11 c = named c.in-11.is refl

pub returns-in-16 : goal.returns-in-16
unfolding op_name op_names lookup as_bytes
returns-in-16 c = named c.in-16.is refl

pub returns-in-17 : goal.returns-in-17
unfolding op_name op_names lookup as_bytes
returns-in-17 c = named c.in-17.is refl

pub returns-in-18 : goal.returns-in-18
unfolding op_name op_names lookup as_bytes
returns-in-18 c = named c.in-18.is refl

pub returns-in-19 : goal.returns-in-19
unfolding op_name op_names lookup as_bytes
returns-in-19 c = named c.in-19.is refl

pub returns-in-20 : goal.returns-in-20
unfolding op_name op_names lookup as_bytes
returns-in-20 c = named c.in-20.is refl

pub returns-in-21 : goal.returns-in-21
unfolding op_name op_names lookup as_bytes
returns-in-21 c = named c.in-21.is refl

pub returns-in-22 : goal.returns-in-22
unfolding op_name op_names lookup as_bytes
returns-in-22 c = named c.in-22.is refl

pub returns-in-23 : goal.returns-in-23
unfolding op_name op_names lookup as_bytes
returns-in-23 c = named c.in-23.is refl

pub returns-in-24 : goal.returns-in-24
unfolding op_name op_names lookup as_bytes
returns-in-24 c = named c.in-24.is refl

pub returns-in-25 : goal.returns-in-25
unfolding op_name op_names lookup as_bytes
returns-in-25 c = named c.in-25.is refl

pub returns-in-26 : goal.returns-in-26
unfolding op_name op_names lookup as_bytes
returns-in-26 c = named c.in-26.is refl

pub returns-in-27 : goal.returns-in-27
unfolding op_name op_names lookup as_bytes
returns-in-27 c = named c.in-27.is refl

pub returns-in-28 : goal.returns-in-28
unfolding op_name op_names lookup as_bytes
returns-in-28 c = named c.in-28.is refl

pub returns-in-29 : goal.returns-in-29
unfolding op_name op_names lookup as_bytes
returns-in-29 c = named c.in-29.is refl

pub returns-in-30 : goal.returns-in-30
unfolding op_name op_names lookup as_bytes
returns-in-30 c = named c.in-30.is refl

pub returns-in-32 : goal.returns-in-32
unfolding op_name op_names lookup as_bytes
returns-in-32 c = named c.in-32.is refl

pub returns-in-48 : goal.returns-in-48
unfolding op_name op_names lookup as_bytes
returns-in-48 c = named c.in-48.is refl

pub returns-in-49 : goal.returns-in-49
unfolding op_name op_names lookup as_bytes
returns-in-49 c = named c.in-49.is refl

pub returns-in-50 : goal.returns-in-50
unfolding op_name op_names lookup as_bytes
returns-in-50 c = named c.in-50.is refl

pub returns-in-51 : goal.returns-in-51
unfolding op_name op_names lookup as_bytes
returns-in-51 c = named c.in-51.is refl

pub returns-in-52 : goal.returns-in-52
unfolding op_name op_names lookup as_bytes
returns-in-52 c = named c.in-52.is refl

pub returns-in-53 : goal.returns-in-53
unfolding op_name op_names lookup as_bytes
returns-in-53 c = named c.in-53.is refl

pub returns-in-54 : goal.returns-in-54
unfolding op_name op_names lookup as_bytes
returns-in-54 c = named c.in-54.is refl

pub returns-in-55 : goal.returns-in-55
unfolding op_name op_names lookup as_bytes
returns-in-55 c = named c.in-55.is refl

pub returns-in-56 : goal.returns-in-56
unfolding op_name op_names lookup as_bytes
returns-in-56 c = named c.in-56.is refl

pub returns-in-57 : goal.returns-in-57
unfolding op_name op_names lookup as_bytes
returns-in-57 c = named c.in-57.is refl

pub returns-in-58 : goal.returns-in-58
unfolding op_name op_names lookup as_bytes
returns-in-58 c = named c.in-58.is refl

pub returns-in-59 : goal.returns-in-59
unfolding op_name op_names lookup as_bytes
returns-in-59 c = named c.in-59.is refl

pub returns-in-60 : goal.returns-in-60
unfolding op_name op_names lookup as_bytes
returns-in-60 c = named c.in-60.is refl

pub returns-in-61 : goal.returns-in-61
unfolding op_name op_names lookup as_bytes
returns-in-61 c = named c.in-61.is refl

pub returns-in-62 : goal.returns-in-62
unfolding op_name op_names lookup as_bytes
returns-in-62 c = named c.in-62.is refl

pub returns-in-63 : goal.returns-in-63
unfolding op_name op_names lookup as_bytes
returns-in-63 c = named c.in-63.is refl

pub returns-in-64 : goal.returns-in-64
unfolding op_name op_names lookup as_bytes
returns-in-64 c = named c.in-64.is refl

pub returns-in-65 : goal.returns-in-65
unfolding op_name op_names lookup as_bytes
returns-in-65 c = named c.in-65.is refl

pub returns-in-66 : goal.returns-in-66
unfolding op_name op_names lookup as_bytes
returns-in-66 c = named c.in-66.is refl

pub returns-in-67 : goal.returns-in-67
unfolding op_name op_names lookup as_bytes
returns-in-67 c = named c.in-67.is refl

pub returns-in-68 : goal.returns-in-68
unfolding op_name op_names lookup as_bytes
returns-in-68 c = named c.in-68.is refl

pub returns-in-69 : goal.returns-in-69
unfolding op_name op_names lookup as_bytes
returns-in-69 c = named c.in-69.is refl

pub returns-in-70 : goal.returns-in-70
unfolding op_name op_names lookup as_bytes
returns-in-70 c = named c.in-70.is refl

pub returns-in-71 : goal.returns-in-71
unfolding op_name op_names lookup as_bytes
returns-in-71 c = named c.in-71.is refl

pub returns-in-72 : goal.returns-in-72
unfolding op_name op_names lookup as_bytes
returns-in-72 c = named c.in-72.is refl

pub returns-in-73 : goal.returns-in-73
unfolding op_name op_names lookup as_bytes
returns-in-73 c = named c.in-73.is refl

pub returns-in-74 : goal.returns-in-74
unfolding op_name op_names lookup as_bytes
returns-in-74 c = named c.in-74.is refl

pub returns-in-80 : goal.returns-in-80
unfolding op_name op_names lookup as_bytes
returns-in-80 c = named c.in-80.is refl

pub returns-in-81 : goal.returns-in-81
unfolding op_name op_names lookup as_bytes
returns-in-81 c = named c.in-81.is refl

pub returns-in-82 : goal.returns-in-82
unfolding op_name op_names lookup as_bytes
returns-in-82 c = named c.in-82.is refl

pub returns-in-83 : goal.returns-in-83
unfolding op_name op_names lookup as_bytes
returns-in-83 c = named c.in-83.is refl

pub returns-in-84 : goal.returns-in-84
unfolding op_name op_names lookup as_bytes
returns-in-84 c = named c.in-84.is refl

pub returns-in-85 : goal.returns-in-85
unfolding op_name op_names lookup as_bytes
returns-in-85 c = named c.in-85.is refl

pub returns-in-86 : goal.returns-in-86
unfolding op_name op_names lookup as_bytes
returns-in-86 c = named c.in-86.is refl

pub returns-in-87 : goal.returns-in-87
unfolding op_name op_names lookup as_bytes
returns-in-87 c = named c.in-87.is refl

pub returns-in-88 : goal.returns-in-88
unfolding op_name op_names lookup as_bytes
returns-in-88 c = named c.in-88.is refl

pub returns-in-89 : goal.returns-in-89
unfolding op_name op_names lookup as_bytes
returns-in-89 c = named c.in-89.is refl

pub returns-in-90 : goal.returns-in-90
unfolding op_name op_names lookup as_bytes
returns-in-90 c = named c.in-90.is refl

pub returns-in-91 : goal.returns-in-91
unfolding op_name op_names lookup as_bytes
returns-in-91 c = named c.in-91.is refl

pub returns-in-92 : goal.returns-in-92
unfolding op_name op_names lookup as_bytes
returns-in-92 c = named c.in-92.is refl

pub returns-in-93 : goal.returns-in-93
unfolding op_name op_names lookup as_bytes
returns-in-93 c = named c.in-93.is refl

pub returns-in-94 : goal.returns-in-94
unfolding op_name op_names lookup as_bytes
returns-in-94 c = named c.in-94.is refl

pub returns-in-95 : goal.returns-in-95
unfolding op_name op_names lookup as_bytes
returns-in-95 c = named c.in-95.is refl

pub returns-in-96 : goal.returns-in-96
unfolding op_name op_names lookup as_bytes
returns-in-96 c = named c.in-96.is refl

pub returns-in-97 : goal.returns-in-97
unfolding op_name op_names lookup as_bytes
returns-in-97 c = named c.in-97.is refl

pub returns-in-98 : goal.returns-in-98
unfolding op_name op_names lookup as_bytes
returns-in-98 c = named c.in-98.is refl

pub returns-in-99 : goal.returns-in-99
unfolding op_name op_names lookup as_bytes
returns-in-99 c = named c.in-99.is refl

pub returns-in-100 : goal.returns-in-100
unfolding op_name op_names lookup as_bytes
returns-in-100 c = named c.in-100.is refl

pub returns-in-101 : goal.returns-in-101
unfolding op_name op_names lookup as_bytes
returns-in-101 c = named c.in-101.is refl

pub returns-in-102 : goal.returns-in-102
unfolding op_name op_names lookup as_bytes
returns-in-102 c = named c.in-102.is refl

pub returns-in-103 : goal.returns-in-103
unfolding op_name op_names lookup as_bytes
returns-in-103 c = named c.in-103.is refl

pub returns-in-104 : goal.returns-in-104
unfolding op_name op_names lookup as_bytes
returns-in-104 c = named c.in-104.is refl

pub returns-in-105 : goal.returns-in-105
unfolding op_name op_names lookup as_bytes
returns-in-105 c = named c.in-105.is refl

pub returns-in-106 : goal.returns-in-106
unfolding op_name op_names lookup as_bytes
returns-in-106 c = named c.in-106.is refl

pub returns-in-107 : goal.returns-in-107
unfolding op_name op_names lookup as_bytes
returns-in-107 c = named c.in-107.is refl

pub returns-in-108 : goal.returns-in-108
unfolding op_name op_names lookup as_bytes
returns-in-108 c = named c.in-108.is refl

pub returns-in-109 : goal.returns-in-109
unfolding op_name op_names lookup as_bytes
returns-in-109 c = named c.in-109.is refl

pub returns-in-110 : goal.returns-in-110
unfolding op_name op_names lookup as_bytes
returns-in-110 c = named c.in-110.is refl

pub returns-in-111 : goal.returns-in-111
unfolding op_name op_names lookup as_bytes
returns-in-111 c = named c.in-111.is refl

pub returns-in-112 : goal.returns-in-112
unfolding op_name op_names lookup as_bytes
returns-in-112 c = named c.in-112.is refl

pub returns-in-113 : goal.returns-in-113
unfolding op_name op_names lookup as_bytes
returns-in-113 c = named c.in-113.is refl

pub returns-in-114 : goal.returns-in-114
unfolding op_name op_names lookup as_bytes
returns-in-114 c = named c.in-114.is refl

pub returns-in-115 : goal.returns-in-115
unfolding op_name op_names lookup as_bytes
returns-in-115 c = named c.in-115.is refl

pub returns-in-116 : goal.returns-in-116
unfolding op_name op_names lookup as_bytes
returns-in-116 c = named c.in-116.is refl

pub returns-in-117 : goal.returns-in-117
unfolding op_name op_names lookup as_bytes
returns-in-117 c = named c.in-117.is refl

pub returns-in-118 : goal.returns-in-118
unfolding op_name op_names lookup as_bytes
returns-in-118 c = named c.in-118.is refl

pub returns-in-119 : goal.returns-in-119
unfolding op_name op_names lookup as_bytes
returns-in-119 c = named c.in-119.is refl

pub returns-in-120 : goal.returns-in-120
unfolding op_name op_names lookup as_bytes
returns-in-120 c = named c.in-120.is refl

pub returns-in-121 : goal.returns-in-121
unfolding op_name op_names lookup as_bytes
returns-in-121 c = named c.in-121.is refl

pub returns-in-122 : goal.returns-in-122
unfolding op_name op_names lookup as_bytes
returns-in-122 c = named c.in-122.is refl

pub returns-in-123 : goal.returns-in-123
unfolding op_name op_names lookup as_bytes
returns-in-123 c = named c.in-123.is refl

pub returns-in-124 : goal.returns-in-124
unfolding op_name op_names lookup as_bytes
returns-in-124 c = named c.in-124.is refl

pub returns-in-125 : goal.returns-in-125
unfolding op_name op_names lookup as_bytes
returns-in-125 c = named c.in-125.is refl

pub returns-in-126 : goal.returns-in-126
unfolding op_name op_names lookup as_bytes
returns-in-126 c = named c.in-126.is refl

pub returns-in-127 : goal.returns-in-127
unfolding op_name op_names lookup as_bytes
returns-in-127 c = named c.in-127.is refl

pub returns-in-128 : goal.returns-in-128
unfolding op_name op_names lookup as_bytes
returns-in-128 c = named c.in-128.is refl

pub returns-in-129 : goal.returns-in-129
unfolding op_name op_names lookup as_bytes
returns-in-129 c = named c.in-129.is refl

pub returns-in-130 : goal.returns-in-130
unfolding op_name op_names lookup as_bytes
returns-in-130 c = named c.in-130.is refl

pub returns-in-131 : goal.returns-in-131
unfolding op_name op_names lookup as_bytes
returns-in-131 c = named c.in-131.is refl

pub returns-in-132 : goal.returns-in-132
unfolding op_name op_names lookup as_bytes
returns-in-132 c = named c.in-132.is refl

pub returns-in-133 : goal.returns-in-133
unfolding op_name op_names lookup as_bytes
returns-in-133 c = named c.in-133.is refl

pub returns-in-134 : goal.returns-in-134
unfolding op_name op_names lookup as_bytes
returns-in-134 c = named c.in-134.is refl

pub returns-in-135 : goal.returns-in-135
unfolding op_name op_names lookup as_bytes
returns-in-135 c = named c.in-135.is refl

pub returns-in-136 : goal.returns-in-136
unfolding op_name op_names lookup as_bytes
returns-in-136 c = named c.in-136.is refl

pub returns-in-137 : goal.returns-in-137
unfolding op_name op_names lookup as_bytes
returns-in-137 c = named c.in-137.is refl

pub returns-in-138 : goal.returns-in-138
unfolding op_name op_names lookup as_bytes
returns-in-138 c = named c.in-138.is refl

pub returns-in-139 : goal.returns-in-139
unfolding op_name op_names lookup as_bytes
returns-in-139 c = named c.in-139.is refl

pub returns-in-140 : goal.returns-in-140
unfolding op_name op_names lookup as_bytes
returns-in-140 c = named c.in-140.is refl

pub returns-in-141 : goal.returns-in-141
unfolding op_name op_names lookup as_bytes
returns-in-141 c = named c.in-141.is refl

pub returns-in-142 : goal.returns-in-142
unfolding op_name op_names lookup as_bytes
returns-in-142 c = named c.in-142.is refl

pub returns-in-143 : goal.returns-in-143
unfolding op_name op_names lookup as_bytes
returns-in-143 c = named c.in-143.is refl

pub returns-in-144 : goal.returns-in-144
unfolding op_name op_names lookup as_bytes
returns-in-144 c = named c.in-144.is refl

pub returns-in-145 : goal.returns-in-145
unfolding op_name op_names lookup as_bytes
returns-in-145 c = named c.in-145.is refl

pub returns-in-146 : goal.returns-in-146
unfolding op_name op_names lookup as_bytes
returns-in-146 c = named c.in-146.is refl

pub returns-in-147 : goal.returns-in-147
unfolding op_name op_names lookup as_bytes
returns-in-147 c = named c.in-147.is refl

pub returns-in-148 : goal.returns-in-148
unfolding op_name op_names lookup as_bytes
returns-in-148 c = named c.in-148.is refl

pub returns-in-149 : goal.returns-in-149
unfolding op_name op_names lookup as_bytes
returns-in-149 c = named c.in-149.is refl

pub returns-in-150 : goal.returns-in-150
unfolding op_name op_names lookup as_bytes
returns-in-150 c = named c.in-150.is refl

pub returns-in-151 : goal.returns-in-151
unfolding op_name op_names lookup as_bytes
returns-in-151 c = named c.in-151.is refl

pub returns-in-152 : goal.returns-in-152
unfolding op_name op_names lookup as_bytes
returns-in-152 c = named c.in-152.is refl

pub returns-in-153 : goal.returns-in-153
unfolding op_name op_names lookup as_bytes
returns-in-153 c = named c.in-153.is refl

pub returns-in-154 : goal.returns-in-154
unfolding op_name op_names lookup as_bytes
returns-in-154 c = named c.in-154.is refl

pub returns-in-155 : goal.returns-in-155
unfolding op_name op_names lookup as_bytes
returns-in-155 c = named c.in-155.is refl

pub returns-in-156 : goal.returns-in-156
unfolding op_name op_names lookup as_bytes
returns-in-156 c = named c.in-156.is refl

pub returns-in-157 : goal.returns-in-157
unfolding op_name op_names lookup as_bytes
returns-in-157 c = named c.in-157.is refl

pub returns-in-158 : goal.returns-in-158
unfolding op_name op_names lookup as_bytes
returns-in-158 c = named c.in-158.is refl

pub returns-in-159 : goal.returns-in-159
unfolding op_name op_names lookup as_bytes
returns-in-159 c = named c.in-159.is refl

pub returns-in-160 : goal.returns-in-160
unfolding op_name op_names lookup as_bytes
returns-in-160 c = named c.in-160.is refl

pub returns-in-161 : goal.returns-in-161
unfolding op_name op_names lookup as_bytes
returns-in-161 c = named c.in-161.is refl

pub returns-in-162 : goal.returns-in-162
unfolding op_name op_names lookup as_bytes
returns-in-162 c = named c.in-162.is refl

pub returns-in-163 : goal.returns-in-163
unfolding op_name op_names lookup as_bytes
returns-in-163 c = named c.in-163.is refl

pub returns-in-164 : goal.returns-in-164
unfolding op_name op_names lookup as_bytes
returns-in-164 c = named c.in-164.is refl

pub returns-in-240 : goal.returns-in-240
unfolding op_name op_names lookup as_bytes
returns-in-240 c = named c.in-240.is refl

pub returns-in-241 : goal.returns-in-241
unfolding op_name op_names lookup as_bytes
returns-in-241 c = named c.in-241.is refl

pub returns-in-242 : goal.returns-in-242
unfolding op_name op_names lookup as_bytes
returns-in-242 c = named c.in-242.is refl

pub returns-in-243 : goal.returns-in-243
unfolding op_name op_names lookup as_bytes
returns-in-243 c = named c.in-243.is refl

pub returns-in-244 : goal.returns-in-244
unfolding op_name op_names lookup as_bytes
returns-in-244 c = named c.in-244.is refl

pub returns-in-245 : goal.returns-in-245
unfolding op_name op_names lookup as_bytes
returns-in-245 c = named c.in-245.is refl

pub returns-in-250 : goal.returns-in-250
unfolding op_name op_names lookup as_bytes
returns-in-250 c = named c.in-250.is refl

pub returns-in-253 : goal.returns-in-253
unfolding op_name op_names lookup as_bytes
returns-in-253 c = named c.in-253.is refl

pub returns-in-254 : goal.returns-in-254
unfolding op_name op_names lookup as_bytes
returns-in-254 c = named c.in-254.is refl

pub returns-in-255 : goal.returns-in-255
unfolding op_name op_names lookup as_bytes
returns-in-255 c = named c.in-255.is refl

pub returns-in_default : goal.returns-in_default
unfolding op_names as_bytes
returns-in_default c = unnamed _ (search rules) refl
